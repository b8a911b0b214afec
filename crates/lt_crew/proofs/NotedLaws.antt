-- The notes of all passes, by place, are those of the history.
use Rattle.std.proofs.Common.{◌≡◌, ℕ, zero, suc, ◌+◌, ◌<◌, ◌≤◌, List, [], ◌∷◌, ◌++◌, Bool, true, false, ◌==◌, if◌then◌else◌, refl, sym}
use Rattle.std.proofs.Common.{ap, ap₂, subst, ◌∙◌, arith}
use Rattle.std.proofs.Common.{append-nil, append_assoc, length-append}
use Rattle.std.specs.List.{flat_map}
use Rattle.std.specs.List.Sorted.{IsPermutation, IsNonDecreasingBy}
use Rattle.std.proofs.lemmas.Bool.Decides.{nat_tests}
use Rattle.std.proofs.lemmas.List.Sorted.{IsPermutation-refl, IsPermutation-trans, IsPermutation-append_left}
use Rattle.std.proofs.lemmas.List.Sorted.{IsPermutation-append_right, IsPermutation-append_comm}
use Rattle.lt_seq.specs.declared.event.Deed.{Deed}
use Rattle.lt_seq.specs.declared.event.Deed.TheVariants.{Ask, Free, Who, Join}
use Rattle.lt_seq.specs.declared.event.Event.{Event}
use Rattle.lt_seq.specs.declared.event.JoinNote.{JoinNote}
use Rattle.lt_seq.specs.Table.{Setting, TreeState, opening, step}
use Rattle.lt_seq.specs.History.{IsLegal, IsLegalFrom}
use Rattle.lt_seq.specs.Passes.{numbers_from}
use Rattle.lt_seq.specs.Yard.{noted, place_after}
use Rattle.lt_history.proofs.ClimbLaws.{Over, Climbs, one_order}
use Rattle.lt_runner.specs.Notes.{notes_behind, notes_in, own_behind, notes_of}

-- Lists of notes without those before.

noted_more : (setting : Setting) (before : List Event) (deed : Deed) (notes : List JoinNote) →
    noted setting before deed notes ≡ notes ++ noted setting before deed []
noted_more setting before (Ask tree range reply) notes = sym (append-nil notes)
noted_more setting before (Free tree range first count) notes = sym (append-nil notes)
noted_more setting before (Who tree range named owners) notes = sym (append-nil notes)
noted_more setting before (Join tree n m) notes = refl

abbrev made : Setting → List Event → List Event → List JoinNote
made setting before [] = []
made setting before (e ∷ es) = noted setting before e.deed [] ++ made setting (before ++ e ∷ []) es

abbrev own : Setting → ℕ → List Event → List Event → List JoinNote
own setting pass before [] = []
own setting pass before (e ∷ es) = (if e.pass == pass then noted setting before e.deed [] else []) ++ own setting pass (before ++ e ∷ []) es

behind_made : (setting : Setting) (before es : List Event) (notes : List JoinNote) →
    notes_behind setting before es notes ≡ notes ++ made setting before es
behind_made setting before [] notes = sym (append-nil notes)
behind_made setting before (e ∷ es) notes =
    let later = made setting (before ++ e ∷ []) es in
    behind_made setting (before ++ e ∷ []) es (noted setting before e.deed notes)
    ∙ ap (λ (ns : List JoinNote). ns ++ later) (noted_more setting before e.deed notes)
    ∙ append_assoc notes (noted setting before e.deed []) later

own_made : (setting : Setting) (pass : ℕ) (before es : List Event) (notes : List JoinNote) →
    own_behind setting pass before es notes ≡ notes ++ own setting pass before es
own_made setting pass before [] notes = sym (append-nil notes)
own_made setting pass before (e ∷ es) notes =
    let later = own setting pass (before ++ e ∷ []) es in
    own_made setting pass (before ++ e ∷ []) es (if e.pass == pass then noted setting before e.deed notes else notes)
    ∙ ap (λ (ns : List JoinNote). ns ++ later) (by_test (e.pass == pass))
    ∙ append_assoc notes (if e.pass == pass then noted setting before e.deed [] else []) later
  where
    by_test : (b : Bool) → (if b then noted setting before e.deed notes else notes) ≡ notes ++ (if b then noted setting before e.deed [] else [])
    by_test true = noted_more setting before e.deed notes
    by_test false = sym (append-nil notes)

-- What one pass adds stands among what all add.

module _ {X : Type 0} (x : List X) (f : ℕ → List X) (p : ℕ) where
  abbrev with_it : ℕ → List X
  with_it n = (if p == n then x else []) ++ f n

  none_added : (from count : ℕ) → p < from → flat_map with_it (numbers_from from count) ≡ flat_map f (numbers_from from count)
  none_added from zero apart = refl
  none_added from (suc count) apart =
      let other : (p == from) ≡ false = grind (arith, nat_tests, apart) in
      ap₂ (λ (xs ys : List X). xs ++ ys) (ap (λ (b : Bool). (if b then x else []) ++ f from) other)
      (none_added (from + 1) count (omega (arith, apart)))

  one_added : (from count : ℕ) → from ≤ p → p < from + count →
      IsPermutation (x ++ flat_map f (numbers_from from count)) (flat_map with_it (numbers_from from count))
  one_added from zero low high = absurd (omega (arith, low, high))
  one_added from (suc count) low high =
      by_test (p == from) refl (λ apart. one_added (from + 1) count (omega (arith, apart)) (omega (arith, high)))
    where
      F : List X
      F = flat_map f (numbers_from (from + 1) count)

      G : List X
      G = flat_map with_it (numbers_from (from + 1) count)

      by_test : (b : Bool) → (p == from) ≡ b → (from < p → IsPermutation (x ++ F) G) →
          IsPermutation (x ++ (f from ++ F)) (((if b then x else []) ++ f from) ++ G)
      by_test true is later =
          let same : (x ++ f from) ++ G ≡ x ++ (f from ++ F) =
          append_assoc x (f from) G ∙ ap (λ (g : List X). x ++ (f from ++ g)) (none_added (from + 1) count (grind (arith, nat_tests, is))) in
          subst (IsPermutation (x ++ (f from ++ F))) (sym same) (IsPermutation-refl (x ++ (f from ++ F)))
      by_test false is later =
          let turned : IsPermutation ((x ++ f from) ++ F) ((f from ++ x) ++ F) =
          IsPermutation-append_left F (x ++ f from) (f from ++ x) (IsPermutation-append_comm x (f from)) in
          let grouped : IsPermutation (x ++ (f from ++ F)) (f from ++ (x ++ F)) =
          subst (IsPermutation (x ++ (f from ++ F))) (append_assoc (f from) x F)
          (subst (λ (l : List X). IsPermutation l ((f from ++ x) ++ F)) (append_assoc x (f from) F) turned) in
          IsPermutation-trans (x ++ (f from ++ F)) (f from ++ (x ++ F)) (f from ++ G) grouped
          (IsPermutation-append_right (f from) (x ++ F) G (later (grind (arith, nat_tests, is, low))))

none_in : (setting : Setting) (before : List Event) (from count : ℕ) →
    flat_map (λ n. own setting n before []) (numbers_from from count) ≡ []
none_in setting before from zero = refl
none_in setting before from (suc count) = none_in setting before (from + 1) count

all_made : (setting : Setting) (trees : List TreeState) (before es : List Event) → IsLegalFrom setting trees es →
    IsPermutation (made setting before es) (flat_map (λ n. own setting n before es) (numbers_from 0 setting.plan.passes))
all_made setting trees before [] legal =
    subst (IsPermutation []) (sym (none_in setting before 0 setting.plan.passes)) (IsPermutation-refl [])
all_made setting trees before (e ∷ es) legal =
    let here = noted setting before e.deed [] in
    let later = before ++ e ∷ [] in
    let passes = numbers_from 0 setting.plan.passes in
    IsPermutation-trans (here ++ made setting later es) (here ++ flat_map (λ n. own setting n later es) passes)
    (flat_map (λ n. own setting n before (e ∷ es)) passes)
    (IsPermutation-append_right here (made setting later es) (flat_map (λ n. own setting n later es) passes)
    (all_made setting (step setting trees e) later es legal.1))
    (one_added here (λ n. own setting n later es) e.pass 0 setting.plan.passes (omega arith) (omega (arith, legal.0.pass)))

-- Their places rise.

abbrev place_in : JoinNote → ℕ
place_in note = note.place

place_on : (setting : Setting) (before : List Event) (e : Event) → place_after setting (before ++ e ∷ []) ≡ place_after setting before + 1
place_on setting before e = omega (arith, length-append before (e ∷ []))

made_over : (setting : Setting) (p : ℕ) (before es : List Event) → p < place_after setting before → Over place_in p (made setting before es)
made_over setting p before [] below = tt
made_over setting p before (e ∷ es) below =
    by_deed e.deed (made_over setting p (before ++ e ∷ []) es (omega (arith, below, place_on setting before e)))
  where
    by_deed : (deed : Deed) → Over place_in p (made setting (before ++ e ∷ []) es) →
        Over place_in p (noted setting before deed [] ++ made setting (before ++ e ∷ []) es)
    by_deed (Ask tree range reply) later = later
    by_deed (Free tree range first count) later = later
    by_deed (Who tree range named owners) later = later
    by_deed (Join tree n m) later = (below, later)

made_climb : (setting : Setting) (before es : List Event) → Climbs place_in (made setting before es)
made_climb setting before [] = tt
made_climb setting before (e ∷ es) =
    by_deed e.deed (made_climb setting (before ++ e ∷ []) es)
    (made_over setting (place_after setting before) (before ++ e ∷ []) es (omega (arith, place_on setting before e)))
  where
    by_deed : (deed : Deed) → Climbs place_in (made setting (before ++ e ∷ []) es) →
        Over place_in (place_after setting before) (made setting (before ++ e ∷ []) es) →
        Climbs place_in (noted setting before deed [] ++ made setting (before ++ e ∷ []) es)
    by_deed (Ask tree range reply) later over = later
    by_deed (Free tree range first count) later over = later
    by_deed (Who tree range named owners) later over = later
    by_deed (Join tree n m) later over = (over, later)

own_each : (setting : Setting) (history : List Event) (passes : List ℕ) →
    flat_map (λ n. notes_of setting n history) passes ≡ flat_map (λ n. own setting n [] history) passes
own_each setting history [] = refl
own_each setting history (n ∷ ns) = ap₂ (λ (xs ys : List JoinNote). xs ++ ys) (own_made setting n [] history []) (own_each setting history ns)

pub merged_notes : (setting : Setting) (history : List Event) (merged : List JoinNote) → IsLegal setting history →
    IsPermutation (flat_map (λ n. notes_of setting n history) (numbers_from 0 setting.plan.passes)) merged →
    IsNonDecreasingBy (λ note. note.place) merged → merged ≡ notes_in setting history
merged_notes setting history merged legal all order =
    let parts = flat_map (λ n. own setting n [] history) (numbers_from 0 setting.plan.passes) in
    let moved : IsPermutation (made setting [] history) merged =
    IsPermutation-trans (made setting [] history) parts merged (all_made setting (opening setting) [] history legal)
    (subst (λ (ns : List JoinNote). IsPermutation ns merged) (own_each setting history (numbers_from 0 setting.plan.passes)) all) in
    one_order place_in (made setting [] history) merged moved (made_climb setting [] history) order ∙ sym (behind_made setting [] history [])
