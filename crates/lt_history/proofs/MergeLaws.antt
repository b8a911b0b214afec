-- The receipts of all passes, by place, are those of the history.
use Rattle.std.proofs.Common.{◌≡◌, ℕ, zero, suc, ◌+◌, ◌<◌, ◌≤◌, List, [], ◌∷◌, ◌++◌, length, Bool, true, false, ◌==◌, if◌then◌else◌, ◌⊎◌, inl, inr, refl, sym, ap, ap₂, subst, arith, ◌∙◌}
use Rattle.std.specs.Prelude.{slice_index_or}
use Rattle.std.specs.List.{Contains, flat_map, sum_by}
use Rattle.std.specs.List.Sorted.{IsPermutation, IsNonDecreasingBy}
use Rattle.std.proofs.lemmas.Bool.Decides.{nat_tests}
use Rattle.std.proofs.lemmas.List.Sorted.{IsPermutation-refl, IsPermutation-trans, IsPermutation-sym, IsPermutation-append_right, IsPermutation-middle, IsPermutation-cons, IsNonDecreasingBy-drop, Contains-permutation, sum_by-IsPermutation}
use Rattle.std.proofs.lemmas.List.Folds.{flat_map-map}
use Rattle.std.proofs.lemmas.List.Sums.{sum_by-cons}
use Rattle.lt_seq.specs.declared.event.Event.{Event}
use Rattle.lt_seq.specs.declared.event.Receipt.{Receipt}
use Rattle.lt_seq.specs.Table.{Setting, TreeState, opening, step}
use Rattle.lt_seq.specs.History.{IsLegalFrom, calls_from}
use Rattle.lt_seq.specs.Questions.{all_receipts}
use Rattle.lt_seq.specs.Passes.{numbers_from, lists_of}
use Rattle.lt_history.specs.Merging.{MergedIsHistory}
use Rattle.lt_history.proofs.ClimbLaws.{Over, Climbs, one_order}

-- One more event is one more receipt in the list of its pass alone.

abbrev listed : ℕ → List Event → List ℕ → List Receipt
listed place events passes = flat_map (λ pass. calls_from place pass events) passes

-- in lists of other passes nothing is added
none_added : (place : ℕ) (e : Event) (es : List Event) (from count : ℕ) → e.pass < from
    → listed place (e ∷ es) (numbers_from from count) ≡ listed (place + 1) es (numbers_from from count)
none_added place e es from zero apart = refl
none_added place e es from (suc count) apart =
    let other : (e.pass == from) ≡ false = grind (arith, nat_tests, apart) in
    grind (arith, none_added place e es (from + 1) count (omega (arith, apart)), other)

-- the first event's receipt stands at the front of the list of its pass
one_added : (place : ℕ) (e : Event) (es : List Event) (from count : ℕ) → from ≤ e.pass → e.pass < from + count
    → IsPermutation (record { place = place; event = e } ∷ listed (place + 1) es (numbers_from from count)) (listed place (e ∷ es) (numbers_from from count))
one_added place e es from zero low high = absurd (omega (arith, low, high))
one_added place e es from (suc count) low high = by_pass (e.pass == from) refl (λ apart. one_added place e es (from + 1) count (omega (arith, apart)) (omega (arith, high)))
  where
    first : Receipt
    first = record { place = place; event = e }

    Later : Type 0
    Later = from < e.pass → IsPermutation (first ∷ listed (place + 1) es (numbers_from (from + 1) count)) (listed place (e ∷ es) (numbers_from (from + 1) count))

    by_pass : (b : Bool) → (e.pass == from) ≡ b → Later
        → IsPermutation (first ∷ (calls_from (place + 1) from es ++ listed (place + 1) es (numbers_from (from + 1) count)))
        ((if b then first ∷ calls_from (place + 1) from es else calls_from (place + 1) from es) ++ listed place (e ∷ es) (numbers_from (from + 1) count))
    by_pass true is later =
        subst (λ rest. IsPermutation (first ∷ (calls_from (place + 1) from es ++ listed (place + 1) es (numbers_from (from + 1) count))) (first ∷ (calls_from (place + 1) from es ++ rest)))
        (sym (none_added place e es (from + 1) count (grind (arith, nat_tests, is)))) (IsPermutation-refl _)
    by_pass false is later =
        let own = calls_from (place + 1) from es in
        let more = later (grind (arith, nat_tests, is, low)) in
        IsPermutation-trans _ _ _
        (IsPermutation-sym _ _ (IsPermutation-middle own first (listed (place + 1) es (numbers_from (from + 1) count))))
        (IsPermutation-append_right own _ _ more)

none_listed : (place from count : ℕ) → listed place [] (numbers_from from count) ≡ []
none_listed place from zero = refl
none_listed place from (suc count) = none_listed place (from + 1) count

-- so all lists together have the history's receipts
all_listed : (setting : Setting) (place : ℕ) (trees : List TreeState) (events : List Event) → IsLegalFrom setting trees events
    → IsPermutation (all_receipts place events) (listed place events (numbers_from 0 setting.plan.passes))
all_listed setting place trees [] legal = subst (λ rs. IsPermutation [] rs) (sym (none_listed place 0 setting.plan.passes)) (IsPermutation-refl [])
all_listed setting place trees (e ∷ es) legal =
    IsPermutation-trans _ _ _
    (IsPermutation-cons (record { place = place; event = e }) _ _ (all_listed setting (place + 1) (step setting trees e) es legal.1))
    (one_added place e es 0 setting.plan.passes (omega arith) (omega (arith, legal.0.pass)))

-- The places of its receipts rise.

receipts_over : (p place : ℕ) (events : List Event) → p < place → Over (λ (r : Receipt). r.place) p (all_receipts place events)
receipts_over p place [] below = tt
receipts_over p place (e ∷ es) below = (below, receipts_over p (place + 1) es (omega (arith, below)))

receipts_climb : (place : ℕ) (events : List Event) → Climbs (λ (r : Receipt). r.place) (all_receipts place events)
receipts_climb place [] = tt
receipts_climb place (e ∷ es) = (receipts_over place (place + 1) es (omega arith), receipts_climb (place + 1) es)

pub merged_is_history : MergedIsHistory
merged_is_history setting history merged legal all order =
    let rs = all_receipts setting.plan.first history in
    let lists : flat_map (λ list. list) (lists_of setting history) ≡ listed setting.plan.first history (numbers_from 0 setting.plan.passes) =
    flat_map-map (λ (list : List Receipt). list) (λ (pass : ℕ). calls_from setting.plan.first pass history) (numbers_from 0 setting.plan.passes) in
    let moved : IsPermutation rs merged =
    IsPermutation-trans _ _ _ (all_listed setting setting.plan.first (opening setting) history legal)
    (subst (λ xs. IsPermutation xs merged) lists all) in
    one_order (λ (r : Receipt). r.place) rs merged moved (receipts_climb setting.plan.first history) order
