-- An image in a plan with distinct rows is what the planned contents read.
use Rattle.std.proofs.Common.{◌≡◌, ℕ, ◌≤◌, inl, inr, List, [], ◌∷◌, ◌++◌, sym, ap, ◌∙◌, arith, eq-eqb}
use Rattle.std.specs.Prelude.{nat_eq}
use Rattle.lt_forest.specs.Counts.{one_if, times}
use Rattle.lt_rows.specs.declared.image.RowImage.{RowImage}
use Rattle.lt_rows.specs.Views.{changed, planned_contents, planned_rows}
use Rattle.lt_rows.proofs.Frames.{changed_at}
use Rattle.lt_rows.proofs.Planned.{planned_else}
use Rattle.lt_locktree.specs.PlannedParts.{InPlan}

pub planned_at_row : (c : ℕ → List ℕ) (ps : List RowImage) (p : RowImage) → InPlan p ps → ((q : ℕ) → times q (planned_rows ps) ≤ 1)
    → planned_contents c ps p.row ≡ p.words
planned_at_row c [] p h once = absurd h
planned_at_row c (q ∷ ps) p (inl e) once =
    let row_is : p.row ≡ q.row = ap (λ (x : RowImage). x.row) e in
    let o = once p.row in
    let one : one_if (nat_eq q.row p.row) ≡ 1 = ap one_if (eq-eqb q.row p.row (sym row_is)) in
    planned_else (changed c q.row q.words) ps p.row (omega arith)
    ∙ (changed_at c q.row q.words p.row row_is ∙ ap (λ (x : RowImage). x.words) (sym e))
planned_at_row c (q ∷ ps) p (inr h) once =
    planned_at_row (changed c q.row q.words) ps p h (λ r. let o = once r in omega arith)

pub in_left : (p : RowImage) (xs ys : List RowImage) → InPlan p xs → InPlan p (xs ++ ys)
in_left p [] ys h = absurd h
in_left p (x ∷ xs) ys (inl e) = inl e
in_left p (x ∷ xs) ys (inr h) = inr (in_left p xs ys h)

pub in_right : (p : RowImage) (xs ys : List RowImage) → InPlan p ys → InPlan p (xs ++ ys)
in_right p [] ys h = h
in_right p (x ∷ xs) ys h = inr (in_right p xs ys h)
