-- A crew's passes at the opening, and behind the last round.
use Rattle.std.proofs.Common.{◌≡◌, ℕ, zero, suc, ◌+◌, ◌<◌, ◌≤◌, List, [], ◌∷◌, ◌++◌, map, take, drop, length, get_or, refl, sym, ap}
use Rattle.std.proofs.Common.{ap₂, subst, ◌∙◌, arith, false}
use Rattle.std.specs.List.{All, AllByRecursion, flat_map}
use Rattle.lt_seq.specs.declared.event.Event.{Event}
use Rattle.lt_seq.specs.declared.event.JoinNote.{JoinNote}
use Rattle.lt_seq.specs.Table.{Setting}
use Rattle.lt_seq.specs.Passes.{numbers_from, opening_view, opening_passes, AreAll, FirstHasAll, front_of_first}
use Rattle.lt_seq.specs.Yard.{PassView, Origin, IsPlan, IsSound}
use Rattle.lt_runner.specs.Notes.{HasOwnNotes, notes_of}
use Rattle.lt_crew.specs.declared.worker.Worker.{Worker}
use Rattle.lt_crew.specs.Workers.{EachPair, IsCaller, IsResting}
use Rattle.lt_crew.specs.Idle.{AreIdle}
use Rattle.lt_crew.specs.Passes.{ArePassesOf, IsEmptied}

opening_sound : (setting : Setting) (number rights : ℕ) → IsSound setting (opening_view number rights)
opening_sound setting number rights = record { legal = tt; mine = refl }

module _ {P : Type 0} (origin : P → Origin) (view : P → PassView) (place : Origin) where
  -- The opening.

  abbrev Opened : List P → ℕ → ℕ → Type 0
  Opened passes from count = map view passes ≡ map (λ n. opening_view n 0) (numbers_from from count)

  opened_at : (workers : List (Worker P)) (from count : ℕ) → Opened (map (λ w. w.pass) workers) from count → (k : ℕ) (d : Worker P) →
      k < length workers → view (get_or workers k d).pass ≡ opening_view (k + from) 0
  opened_at [] from count is k d inside = absurd (omega (arith, inside))
  opened_at (w ∷ ws) from zero is k d inside = absurd (omega (arith, ap length is))
  opened_at (w ∷ ws) from (suc count) is zero d inside =
      let first : view w.pass ≡ opening_view from 0 = cc in
      first ∙ ap (λ (n : ℕ). opening_view n 0) (omega arith)
  opened_at (w ∷ ws) from (suc count) is (suc k) d inside =
      let later : Opened (map (λ v. v.pass) ws) (from + 1) count = cc in
      opened_at ws (from + 1) count later k d (omega (arith, inside)) ∙ ap (λ (n : ℕ). opening_view n 0) (omega arith)

  opened_count : (workers : List (Worker P)) (from count : ℕ) → Opened (map (λ w. w.pass) workers) from count → length workers ≡ count
  opened_count [] from zero is = refl
  opened_count [] from (suc count) is = absurd (omega (arith, ap length is))
  opened_count (w ∷ ws) from zero is = absurd (omega (arith, ap length is))
  opened_count (w ∷ ws) from (suc count) is =
      let later : Opened (map (λ v. v.pass) ws) (from + 1) count = cc in
      ap suc (opened_count ws (from + 1) count later)

  of_at : (workers : List (Worker P)) → AllByRecursion (λ p. origin p ≡ place) (map (λ w. w.pass) workers) → (k : ℕ) (d : Worker P) →
      k < length workers → origin (get_or workers k d).pass ≡ place
  of_at [] all k d inside = absurd (omega (arith, inside))
  of_at (w ∷ ws) all zero d inside = all.0
  of_at (w ∷ ws) all (suc k) d inside = of_at ws all.1 k d (omega (arith, inside))

  -- the first pass is the caller's, and the others are the workers'
  pub record AreParted (me : P) (workers : List (Worker P)) : Type 0 where
    pub of : origin me ≡ place
    pub first : view me ≡ opening_view 0 place.setting.plan.passes
    pub count : place.setting.plan.passes ≡ length workers + 1
    pub each_of : (k : ℕ) (d : Worker P) → k < length workers → origin (get_or workers k d).pass ≡ place
    pub each : (k : ℕ) (d : Worker P) → k < length workers → view (get_or workers k d).pass ≡ opening_view (k + 1) 0
    pub memory : All (λ w. w.short ≡ false) workers

  pub parted : (passes : List P) (count : ℕ) (me : P) (rest : List P) (workers : List (Worker P)) → place.setting.plan.passes ≡ count →
      AllByRecursion (λ p. origin p ≡ place) passes → map view passes ≡ opening_passes count → 2 ≤ count → me ≡ get_or passes 0 me →
      rest ≡ take 0 passes ++ drop 1 passes → ArePassesOf rest workers → AreParted me workers
  parted passes zero me rest workers plan of views some at left own = absurd (omega (arith, some))
  parted [] (suc more) me rest workers plan of views some at left own = absurd (omega (arith, ap length views))
  parted (p ∷ ps) (suc more) me rest workers plan of views some at left own =
      let all : map (λ w. w.pass) workers ≡ ps = own.own ∙ left in
      let first : view p ≡ opening_view 0 (suc more) = cc in
      let later : Opened ps 1 more = cc in
      let opened : Opened (map (λ w. w.pass) workers) 1 more = ap (map view) all ∙ later in
      record {
        of = ap origin at ∙ of.0;
        first = ap view at ∙ first ∙ ap (opening_view 0) (sym plan);
        count = omega (arith, plan, opened_count workers 1 more opened);
        each_of = of_at workers (subst (AllByRecursion (λ q. origin q ≡ place)) (sym all) of.1);
        each = opened_at workers 1 more opened;
        memory = own.memory;
      }

  pub parted_caller : (me : P) (workers : List (Worker P)) → IsPlan place.setting.plan → 2 ≤ place.setting.plan.passes → AreParted me workers →
      IsCaller place.setting (length workers) (view me)
  parted_caller me workers plan some parts = record {
    number = ap (λ (p : PassView). p.number) parts.first;
    all = ap (λ (p : PassView). p.rights) parts.first;
    plan = plan;
    passes = parts.count;
    some = omega (arith, some, parts.count);
    sound = subst (IsSound place.setting) (sym parts.first) (opening_sound place.setting 0 place.setting.plan.passes);
  }

  parted_rests : (me : P) (workers : List (Worker P)) → AreParted me workers → (k : ℕ) (d : Worker P) → k < length workers →
      IsResting origin view place (view me).front (get_or workers k d)
  parted_rests me workers parts k d inside =
      let is = parts.each k d inside in
      record {
        of = parts.each_of k d inside;
        none = ap (λ (p : PassView). p.rights) is;
        seen = ap (λ (p : PassView). p.front) is ∙ sym (ap (λ (p : PassView). p.front) parts.first);
        sound = subst (IsSound place.setting) (sym is) (opening_sound place.setting (k + 1) 0);
        memory = parts.memory k d inside;
      }

  pub parted_idle : (me : P) (workers : List (Worker P)) → AreParted me workers → AreIdle origin view place (view me).front workers
  parted_idle me workers parts = record {
    resting = parted_rests me workers parts;
    numbers = λ k d inside. ap (λ (p : PassView). p.number) (parts.each k d inside);
    noted = λ k d inside. subst (HasOwnNotes place.setting) (sym (parts.each k d inside)) refl;
  }

  -- Behind the last round.

  pub all_of : (me : P) (workers : List (Worker P)) (passes : List P) → origin me ≡ place → AreIdle origin view place (view me).front workers →
      passes ≡ me ∷ map (λ w. w.pass) workers → All (λ p. origin p ≡ place) passes
  all_of me workers passes of idle is = subst (All (λ p. origin p ≡ place)) (sym is) by_index
    where
      by_index : All (λ p. origin p ≡ place) (me ∷ map (λ w. w.pass) workers)
      by_index zero d inside = of
      by_index (suc k) d inside =
          let pass = worker_at workers k d (λ v. origin v.pass ≡ place) (omega (arith, inside)) (λ e in_k. (idle.resting k e in_k).of) in
          subst (λ (p : P). origin p ≡ place) pass.1 pass.2
        where
          worker_at : (ws : List (Worker P)) (i : ℕ) (e : P) (Q : Worker P → Type 0) → i < length (map (λ w. w.pass) ws) →
              ((c : Worker P) → i < length ws → Q (get_or ws i c)) →
              (w : Worker P) × (w.pass ≡ get_or (map (λ v. v.pass) ws) i e) × Q w
          worker_at [] i e Q in_i has = absurd (omega (arith, in_i))
          worker_at (w ∷ ws) zero e Q in_i has = (w, refl, has w (omega arith))
          worker_at (w ∷ ws) (suc i) e Q in_i has = worker_at ws i e Q (omega (arith, in_i)) (λ c lt. has c (omega (arith, lt)))

  number_all : (workers : List (Worker P)) (from : ℕ) →
      ((k : ℕ) (d : Worker P) → k < length workers → (view (get_or workers k d).pass).number ≡ k + from) →
      map (λ (p : PassView). p.number) (map view (map (λ w. w.pass) workers)) ≡ numbers_from from (length workers)
  number_all [] from is = refl
  number_all (w ∷ ws) from is =
      let first : (view w.pass).number ≡ from = is 0 w (omega arith) ∙ omega arith in
      ap₂ (λ (n : ℕ) (ns : List ℕ). n ∷ ns) first
      (number_all ws (from + 1) (λ k d inside. is (suc k) d (omega (arith, inside)) ∙ omega arith))

  same_numbers : (old new : List P) → EachPair (IsEmptied origin view place) old new →
      map (λ (p : PassView). p.number) (map view new) ≡ map (λ (p : PassView). p.number) (map view old)
  same_numbers [] [] pairs = refl
  same_numbers [] (n ∷ ns) pairs = absurd (omega (arith, pairs.0))
  same_numbers (o ∷ os) [] pairs = absurd (omega (arith, pairs.0))
  same_numbers (o ∷ os) (n ∷ ns) pairs =
      ap₂ (λ (k : ℕ) (ks : List ℕ). k ∷ ks) (ap (λ (p : PassView). p.number) (pairs.1 0 o (omega arith)).pass)
      (same_numbers os ns (omega (arith, pairs.0), λ i d inside. pairs.1 (suc i) d (omega (arith, inside))))

  of_all : (old new : List P) → EachPair (IsEmptied origin view place) old new → AllByRecursion (λ p. origin p ≡ place) new
  of_all old [] pairs = tt
  of_all [] (n ∷ ns) pairs = absurd (omega (arith, pairs.0))
  of_all (o ∷ os) (n ∷ ns) pairs = (
    (pairs.1 0 o (omega arith)).of,
    of_all os ns (omega (arith, pairs.0), λ i d inside. pairs.1 (suc i) d (omega (arith, inside))),
  )

  -- what the passes are, once their notes were taken
  pub record AreBack (me : P) (new : List P) : Type 0 where
    pub of : AllByRecursion (λ p. origin p ≡ place) new
    pub all : AreAll place.setting (map view new)
    pub front : front_of_first (map view new) ≡ (view me).front

  first_is : (me : P) (rest new : List P) → EachPair (IsEmptied origin view place) (me ∷ rest) new → (view me).rights ≡ place.setting.plan.passes →
      FirstHasAll place.setting (map view new) × (front_of_first (map view new) ≡ (view me).front)
  first_is me rest [] pairs all = absurd (omega (arith, pairs.0))
  first_is me rest (n ∷ ns) pairs all =
      let is = (pairs.1 0 me (omega arith)).pass in
      (ap (λ (p : PassView). p.rights) is ∙ all, ap (λ (p : PassView). p.front) is)

  pub are_back : (me : P) (workers : List (Worker P)) (passes new : List P) → IsCaller place.setting (length workers) (view me) →
      AreIdle origin view place (view me).front workers → passes ≡ me ∷ map (λ w. w.pass) workers →
      EachPair (IsEmptied origin view place) passes new → AreBack me new
  are_back me workers passes new caller idle is pairs =
      let all = subst (λ (ps : List P). EachPair (IsEmptied origin view place) ps new) is pairs in
      let numbers : map (λ (p : PassView). p.number) (map view (me ∷ map (λ w. w.pass) workers)) ≡ numbers_from 0 (suc (length workers)) =
      ap₂ (λ (n : ℕ) (ns : List ℕ). n ∷ ns) caller.number (number_all workers 1 idle.numbers) in
      let count : suc (length workers) ≡ place.setting.plan.passes = omega (arith, caller.passes) in
      let first = first_is me (map (λ w. w.pass) workers) new all caller.all in
      record {
        of = of_all (me ∷ map (λ w. w.pass) workers) new all;
        all = record {
          numbers = same_numbers (me ∷ map (λ w. w.pass) workers) new all ∙ numbers ∙ ap (numbers_from 0) count;
          first = first.0;
        };
        front = first.1;
      }

  note_all : (setting : Setting) (history : List Event) (workers : List (Worker P)) (from : ℕ) →
      ((k : ℕ) (d : Worker P) → k < length workers → (view (get_or workers k d).pass).notes ≡ notes_of setting (k + from) history) →
      flat_map (λ p. (view p).notes) (map (λ w. w.pass) workers) ≡ flat_map (λ n. notes_of setting n history) (numbers_from from (length workers))
  note_all setting history [] from is = refl
  note_all setting history (w ∷ ws) from is =
      ap₂ (λ (xs ys : List JoinNote). xs ++ ys)
      (is 0 w (omega arith) ∙ ap (λ (n : ℕ). notes_of setting n history) (omega arith))
      (note_all setting history ws (from + 1)
      (λ k d inside. is (suc k) d (omega (arith, inside)) ∙ ap (λ (n : ℕ). notes_of setting n history) (omega arith)))

  -- the notes that the passes have are those of each pass's joins
  pub notes_are : (me : P) (workers : List (Worker P)) (passes : List P) → IsCaller place.setting (length workers) (view me) →
      HasOwnNotes place.setting (view me) → AreIdle origin view place (view me).front workers → passes ≡ me ∷ map (λ w. w.pass) workers →
      flat_map (λ p. (view p).notes) passes
      ≡ flat_map (λ n. notes_of place.setting n (view me).front) (numbers_from 0 place.setting.plan.passes)
  notes_are me workers passes caller noted idle is =
      let setting = place.setting in
      let history = (view me).front in
      let count : suc (length workers) ≡ setting.plan.passes = omega (arith, caller.passes) in
      ap (flat_map (λ p. (view p).notes)) is
      ∙ ap₂ (λ (xs ys : List JoinNote). xs ++ ys) (noted ∙ ap (λ (n : ℕ). notes_of setting n history) caller.number)
      (note_all setting history workers 1 (λ k d inside.
      idle.noted k d inside ∙ ap (λ (es : List Event). notes_of setting (view (get_or workers k d).pass).number es) (idle.resting k d inside).seen
      ∙ ap (λ (n : ℕ). notes_of setting n history) (idle.numbers k d inside)))
      ∙ ap (λ (n : ℕ). flat_map (λ m. notes_of setting m history) (numbers_from 0 n)) count
