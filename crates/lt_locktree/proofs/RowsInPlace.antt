-- A row in its place in a list.
use Rattle.std.proofs.Common.{◌≡◌, ℕ, zero, suc, ◌+◌, ◌<◌, Bool, true, cond, List, [], ◌∷◌, ◌++◌, length, fold, set, get_or, take, drop, drop-cons, refl, sym, ap, ◌∙◌, arith}
use Rattle.std.proofs.lemmas.List.{take-append-drop}
use Rattle.lt_ranges.specs.Interval.{Interval, hull}
use Rattle.lt_seq.specs.declared.event.Pair.{Pair}
use Rattle.lt_seq.specs.Pairs.{is_own, span}
use Rattle.lt_forest.specs.declared.part.PartRow.{PartRow}
use Rattle.lt_forest.specs.Parts.{row_pair}
use Rattle.lt_locktree.specs.LawsOfGrants.{merged_row}
use Rattle.lt_locktree.specs.PlannedParts.{IsAt}

pub is_at : (rows : List PartRow) (at : ℕ) (r : PartRow) → at < length rows → r ≡ get_or rows at r → IsAt rows at r
is_at rows at r lt e =
    let one : suc at ≡ at + 1 = omega arith in
    sym (ap (λ (l : List PartRow). take at rows ++ l) ((λ j. e j ∷ drop (sym one j) rows) ∙ sym (drop-cons rows at r lt)) ∙ take-append-drop at rows)

set_on : (rows : List PartRow) (at : ℕ) (r : PartRow) → at < length rows → set rows at r ≡ take at rows ++ r ∷ drop (suc at) rows
set_on [] at r lt = absurd (omega (arith, lt))
set_on (x ∷ rows) zero r lt = refl
set_on (x ∷ rows) (suc at) r lt = ap (λ (l : List PartRow). x ∷ l) (set_on rows at r (omega (arith, lt)))

pub set_is : (rows : List PartRow) (at : ℕ) (r : PartRow) → at < length rows → set rows at r ≡ take at rows ++ r ∷ drop (at + 1) rows
set_is rows at r lt =
    let one : suc at ≡ at + 1 = omega arith in
    set_on rows at r lt ∙ ap (λ (n : ℕ). take at rows ++ r ∷ drop n rows) one

pub grown_is : (txn : ℕ) (range : Interval) (r : PartRow) → is_own txn range (row_pair r) ≡ true
    → record { row = r.row; owner = txn; range = hull range r.range } ≡ merged_row txn range r []
grown_is txn range r own =
    let spans : span txn range (row_pair r ∷ []) ≡ hull range r.range =
    ap (λ (b : Bool). fold (λ (a : Interval) (p : Pair). hull a p.range) range (cond b (row_pair r ∷ []) [])) own in
    sym (ap (λ (i : Interval). record { row = r.row; owner = txn; range = i }) spans)
