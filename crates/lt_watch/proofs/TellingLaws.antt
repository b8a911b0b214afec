-- What watches have been told, as they are told one after another.
use Rattle.std.proofs.Common.{◌≡◌, ℕ, zero, suc, ◌+◌, ◌≤◌, ◌<◌, List, [], ◌∷◌, ◌++◌, length, take, drop, map, set, get_or, true, false, refl, sym, ap, ◌∙◌, arith, append-nil}
use Rattle.std.proofs.lemmas.List.{map-set, get_or-map, take_more, take_all, length-map}
use Rattle.std.proofs.lemmas.List.Sums.{count_by_more_yes, count_by_more_no}
use Rattle.std.proofs.Math.ListN.{drop_of_length-le}
use Rattle.std.specs.List.{count_by}
use Rattle.lt_seq.specs.declared.event.JoinNote.{JoinNote}
use Rattle.lt_watch.specs.Tellings.{Log, is_full, after_note, after_notes}

-- no note changes nothing
pub told_none : (logs : List Log) → map (after_notes []) logs ≡ logs
told_none [] = refl
told_none (log ∷ logs) = ap (λ ls. log ∷ ls) (told_none logs)

-- a note behind others
told_behind : (notes : List JoinNote) (note : JoinNote) (log : Log) → after_note note (after_notes notes log) ≡ after_notes (notes ++ note ∷ []) log
told_behind [] note log = refl
told_behind (first ∷ notes) note log = told_behind notes note (after_note first log)

pub told_one_more : (notes : List JoinNote) (note : JoinNote) (logs : List Log)
    → map (after_note note) (map (after_notes notes) logs) ≡ map (after_notes (notes ++ note ∷ [])) logs
told_one_more notes note [] = refl
told_one_more notes note (log ∷ logs) =
    ap (λ l. l ∷ map (after_note note) (map (after_notes notes) logs)) (told_behind notes note log)
    ∙ ap (λ ls. after_notes (notes ++ note ∷ []) log ∷ ls) (told_one_more notes note logs)

-- so does one more note of a list
pub told_next : (notes : List JoinNote) (i : ℕ) (note : JoinNote) (old mid new : List Log) → i < length notes → note ≡ get_or notes i note
    → mid ≡ map (after_notes (take i notes)) old → new ≡ map (after_note note) mid → new ≡ map (after_notes (take (i + 1) notes)) old
told_next notes i note old mid new within at before now =
    now ∙ ap (map (after_note note)) before ∙ told_one_more (take i notes) note old
    ∙ ap (λ ns. map (after_notes ns) old) (ap (λ n. take i notes ++ n ∷ []) at ∙ sym (take_more notes i note within))

-- the logs once those before the place were told the note
abbrev pub told_below : JoinNote → ℕ → List Log → List Log
told_below note zero logs = logs
told_below note (suc n) [] = []
told_below note (suc n) (log ∷ logs) = after_note note log ∷ told_below note n logs

-- from the place on they are as they were
told_at : (note : JoinNote) (i : ℕ) (logs : List Log) (d : Log) → get_or (told_below note i logs) i d ≡ get_or logs i d
told_at note zero logs d = refl
told_at note (suc i) [] d = refl
told_at note (suc i) (log ∷ logs) d = told_at note i logs d

length_below : (note : JoinNote) (i : ℕ) (logs : List Log) → length (told_below note i logs) ≡ length logs
length_below note zero logs = refl
length_below note (suc i) [] = refl
length_below note (suc i) (log ∷ logs) = ap suc (length_below note i logs)

-- the one at the place is told it
told_set : (note : JoinNote) (i : ℕ) (logs : List Log) (d : Log)
    → set (told_below note i logs) i (after_note note (get_or logs i d)) ≡ told_below note (suc i) logs
told_set note zero [] d = refl
told_set note zero (log ∷ logs) d = refl
told_set note (suc i) [] d = refl
told_set note (suc i) (log ∷ logs) d = ap (λ ls. after_note note log ∷ ls) (told_set note i logs d)

-- behind the last one all are told
pub told_all : (note : JoinNote) (n : ℕ) (logs : List Log) → length logs ≤ n → told_below note n logs ≡ map (after_note note) logs
told_all note zero [] all = refl
told_all note zero (log ∷ logs) all = absurd (omega (arith, all))
told_all note (suc n) [] all = refl
told_all note (suc n) (log ∷ logs) all = ap (λ ls. after_note note log ∷ ls) (told_all note n logs (omega (arith, all)))

module _ {X : Type 0} where
  -- the watch at the place has the log that it had
  untold_at : (f : X → Log) (note : JoinNote) (i : ℕ) (logs : List Log) (cur : List X) (d : X)
      → map f cur ≡ told_below note i logs → i < length cur → f (get_or cur i d) ≡ get_or logs i (f d)
  untold_at f note i logs cur d told within =
      sym (get_or-map f cur i d (f d) within) ∙ ap (λ ls. get_or ls i (f d)) told ∙ told_at note i logs (f d)

  within_logs : (f : X → Log) (note : JoinNote) (i : ℕ) (logs : List Log) (cur : List X)
      → map f cur ≡ told_below note i logs → i < length cur → i < length logs
  within_logs f note i logs cur told within = omega (arith, within, length-map cur f, ap length told, length_below note i logs)

  -- one more watch is told
  pub told_more : (f : X → Log) (note : JoinNote) (i : ℕ) (logs : List Log) (cur : List X) (d x : X)
      → map f cur ≡ told_below note i logs → i < length cur → f x ≡ after_note note (f (get_or cur i d))
      → map f (set cur i x) ≡ told_below note (i + 1) logs
  told_more f note i logs cur d x told within now =
      let next : suc i ≡ i + 1 = omega arith in
      map-set f cur i x ∙ ap (λ ls. set ls i (f x)) told
      ∙ ap (λ l. set (told_below note i logs) i l) (now ∙ ap (after_note note) (untold_at f note i logs cur d told within))
      ∙ told_set note i logs (f d) ∙ ap (λ n. told_below note n logs) next

  -- one more that is full is counted, and one that is not full is not
  pub full_more : (f : X → Log) (note : JoinNote) (i full : ℕ) (logs : List Log) (cur : List X) (d : X)
      → map f cur ≡ told_below note i logs → i < length cur → is_full note (f (get_or cur i d)) ≡ true
      → full ≡ count_by (is_full note) (take i logs) → full + 1 ≡ count_by (is_full note) (take (i + 1) logs)
  full_more f note i full logs cur d told within is before =
      ap (λ n. n + 1) before
      ∙ sym (count_by_more_yes (is_full note) logs i (f d) (within_logs f note i logs cur told within)
      (sym (ap (is_full note) (untold_at f note i logs cur d told within)) ∙ is))

  pub full_same : (f : X → Log) (note : JoinNote) (i full : ℕ) (logs : List Log) (cur : List X) (d : X)
      → map f cur ≡ told_below note i logs → i < length cur → is_full note (f (get_or cur i d)) ≡ false
      → full ≡ count_by (is_full note) (take i logs) → full ≡ count_by (is_full note) (take (i + 1) logs)
  full_same f note i full logs cur d told within is before =
      before
      ∙ sym (count_by_more_no (is_full note) logs i (f d) (within_logs f note i logs cur told within)
      (sym (ap (is_full note) (untold_at f note i logs cur d told within)) ∙ is))

  -- behind the last watch all are told
  pub told_whole : (f : X → Log) (note : JoinNote) (i n : ℕ) (old cur : List X)
      → map f cur ≡ told_below note i (map f old) → length cur ≡ length old → length old ≤ i → length old ≤ n
      → map f (take n (cur ++ drop (length cur) old)) ≡ map (after_note note) (map f old)
  told_whole f note i n old cur told same all room =
      ap (map f) (ap (λ xs. take n (cur ++ xs)) (drop_of_length-le old (omega (arith, same))) ∙ ap (take n) (append-nil cur)
      ∙ take_all n cur (omega (arith, same, room)))
      ∙ told ∙ told_all note i (map f old) (omega (arith, all, length-map old f))
