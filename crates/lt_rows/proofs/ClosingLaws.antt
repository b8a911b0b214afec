-- Passes with which a table may be closed.
use Rattle.std.proofs.Common.{◌≡◌, ℕ, zero, suc, ◌≤◌, List, [], ◌∷◌, map, replicate, refl, sym, ap, ◌∙◌, subst, arith, Some, None}
use Rattle.std.specs.Prelude.{Option, slice_index_or}
use Rattle.std.proofs.lemmas.List.Elements.{All-head}
use Rattle.lt_rows.specs.declared.row_plan.RowPlan.{RowPlan}
use Rattle.lt_seq.specs.Yard.{IsPlan}
use Rattle.lt_seq.specs.Passes.{numbers_from}
use Rattle.lt_rows.specs.declared.view.Row.{Row}
use Rattle.lt_rows.specs.declared.table.RowTable.{RowTable}
use Rattle.lt_rows.specs.declared.pass.RowPass.{RowPass}
use Rattle.lt_rows.specs.Plan.{sizes_of}
use Rattle.lt_rows.specs.Views.{row_at, rows_of}
use Rattle.lt_rows.specs.Handles.{knows, IsPassOf}
use Rattle.lt_rows.specs.Openings.{IsNew, AreItsPasses, rights_at}
use Rattle.lt_rows.specs.Closings.{HasAll, FirstHasAll}

none_held : (x : Option Row) (row : Row) → x ≡ None → x ≡ Some row → ⊥
none_held x row e f = cc

-- a pass alone that has all the rights and holds nothing
pub one_pass : (t : RowTable) (p : RowPass) (passes : List RowPass) → passes ≡ p ∷ [] → IsPassOf t p → p.rights ≡ t.plan.passes
    → ((q : ℕ) → row_at (knows p) q ≡ None) → FirstHasAll t passes
one_pass t p passes is of all none =
    let has : HasAll t p = record { of = of; all = all; none = λ r row held. none_held (row_at (knows p) r) row (none r) held } in
    subst (FirstHasAll t) (sym is) has

first_number : (count : ℕ) (p : RowPass) (passes : List RowPass) → map (λ q. q.number) (p ∷ passes) ≡ numbers_from 0 count → p.number ≡ 0
first_number zero p passes e = absurd (some_none p.number (map (λ (q : RowPass). q.number) passes) e)
  where
    some_none : (x : ℕ) (xs : List ℕ) → x ∷ xs ≡ [] → ⊥
    some_none x xs k = cc
first_number (suc n) p passes e = cc

no_passes : (count : ℕ) → 1 ≤ count → [] ≡ numbers_from 0 count → ⊥
no_passes zero le e = omega arith
no_passes (suc n) le e = none_some 0 (numbers_from 1 n) e
  where
    none_some : (x : ℕ) (xs : List ℕ) → [] ≡ x ∷ xs → ⊥
    none_some x xs k = cc

none_in : (n r : ℕ) → slice_index_or {A = Option Row} (replicate n None) r None ≡ None
none_in zero r = refl
none_in (suc n) zero = refl
none_in (suc n) (suc r) = none_in n r

-- the passes of a new table
pub new_passes : (t : RowTable) (k : RowPlan) (passes : List RowPass) → t.plan ≡ k → IsPlan (sizes_of k) → AreItsPasses t passes → FirstHasAll t passes
new_passes t k [] is plan new =
    let h = plan.passes in
    no_passes t.plan.passes (subst (λ (y : RowPlan). 1 ≤ y.passes) (sym is) h) new.numbers
new_passes t k (p ∷ passes) is plan new =
    let one : IsNew t.table.shared.table_id t.plan p = All-head (IsNew t.table.shared.table_id t.plan) p passes new.each in
    let number = first_number t.plan.passes p passes new.numbers in
    record {
      of = one.of;
      all = one.rights ∙ ap (rights_at t.plan) number;
      none = λ r row held. none_held (row_at (knows p) r) row (ap (λ v. row_at v r) one.knows_is ∙ none_in (rows_of t.plan) r) held;
    }
