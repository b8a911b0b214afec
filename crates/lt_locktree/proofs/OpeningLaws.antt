-- The passes of a new table hold no row, and their numbers are below its passes.
use Rattle.std.proofs.Common.{◌≡◌, ℕ, zero, suc, ◌+◌, ◌<◌, List, [], ◌∷◌, ◌++◌, map, replicate, slice_index_or, refl, sym, ap, ◌∙◌, subst, arith, Option, None}
use Rattle.std.specs.List.{All}
use Rattle.std.proofs.lemmas.List.Elements.{All-nil, All-cons, All-head, All-tail}
use Rattle.lt_rows.specs.declared.row_plan.RowPlan.{RowPlan}
use Rattle.lt_seq.specs.Passes.{numbers_from}
use Rattle.lt_rows.specs.declared.pass.RowPass.{RowPass}
use Rattle.lt_rows.specs.declared.table.RowTable.{RowTable}
use Rattle.lt_rows.specs.declared.view.Row.{Row}
use Rattle.lt_locktree.specs.declared.tree_pass.TreePass.{TreePass}
use Rattle.lt_rows.specs.Views.{row_at, rows_of}
use Rattle.lt_rows.specs.Handles.{knows}
use Rattle.lt_rows.specs.Openings.{IsNew, AreItsPasses}
use Rattle.lt_tree.specs.States.{HoldsNone}

-- a pass that a `TreePass` can be made of
abbrev pub IsIdle : RowPass → Type 0
IsIdle p = HoldsNone (knows p) × (p.number < (knows p).plan.passes)

none_in : (n r : ℕ) → slice_index_or {A = Option Row} (replicate n None) r None ≡ None
none_in zero r = refl
none_in (suc n) zero = refl
none_in (suc n) (suc r) = none_in n r

idle_of : (t : RowTable) (p : RowPass) → IsNew t.table.shared.table_id t.plan p → p.number < t.plan.passes → IsIdle p
idle_of t p new below = (
  λ r. ap (λ v. row_at v r) new.knows_is ∙ none_in (rows_of t.plan) r,
  subst (λ (plan : RowPlan). p.number < plan.passes) (sym new.of.1) below,
)

idle_from : (t : RowTable) (n count : ℕ) (passes : List RowPass) → n + count ≡ t.plan.passes → map (λ p. p.number) passes ≡ numbers_from n count
    → All (IsNew t.table.shared.table_id t.plan) passes → All IsIdle passes
idle_from t n count [] all numbers new = All-nil IsIdle
idle_from t n zero (p ∷ passes) all numbers new = absurd (none_some p.number (map (λ p. p.number) passes) (sym numbers))
  where
    none_some : (x : ℕ) (xs : List ℕ) → [] ≡ x ∷ xs → ⊥
    none_some x xs k = cc
idle_from t n (suc count) (p ∷ passes) all numbers new =
    let one : IsNew t.table.shared.table_id t.plan p = All-head (IsNew t.table.shared.table_id t.plan) p passes new in
    let parts = ends p.number n (map (λ p. p.number) passes) (numbers_from (n + 1) count) numbers in
    All-cons IsIdle p passes (idle_of t p one (omega (arith, parts.0, all)))
    (idle_from t (n + 1) count passes (omega (arith, all)) parts.1 (All-tail (IsNew t.table.shared.table_id t.plan) p passes new))
  where
    ends : (x y : ℕ) (xs ys : List ℕ) → x ∷ xs ≡ y ∷ ys → (x ≡ y) × (xs ≡ ys)
    ends x y xs ys same = (cc, cc)

pub new_idle : (t : RowTable) (passes : List RowPass) → AreItsPasses t passes → All IsIdle passes
new_idle t passes new = idle_from t 0 t.plan.passes passes (omega arith) new.numbers new.each

-- one pass more is made
pub rest_moves : (made : List TreePass) (x : TreePass) (more : List TreePass) (rest left : List RowPass) → more ≡ made ++ x ∷ [] → rest ≡ x.pass ∷ left
    → map (λ p. p.pass) more ++ left ≡ map (λ p. p.pass) made ++ rest
rest_moves made x more rest left is was =
    ap (λ (l : List TreePass). map (λ p. p.pass) l ++ left) is ∙ (go made ∙ ap (λ (l : List RowPass). map (λ p. p.pass) made ++ l) (sym was))
  where
    go : (made : List TreePass) → map (λ p. p.pass) (made ++ x ∷ []) ++ left ≡ map (λ p. p.pass) made ++ x.pass ∷ left
    go [] = refl
    go (y ∷ ys) = ap (λ (l : List RowPass). y.pass ∷ l) (go ys)
