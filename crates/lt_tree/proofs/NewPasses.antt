-- The two passes of a new table.
use Rattle.std.proofs.Common.{◌≡◌, ℕ, zero, suc, List, [], ◌∷◌, ◌++◌, map, length, replicate, refl, sym, ap, ◌∙◌, subst, arith}
use Rattle.std.specs.Prelude.{Option, None, slice_index_or}
use Rattle.std.specs.List.{All}
use Rattle.std.proofs.lemmas.List.Elements.{All-head, All-tail}
use Rattle.lt_rows.specs.declared.row_plan.RowPlan.{RowPlan}
use Rattle.lt_seq.specs.Passes.{numbers_from}
use Rattle.lt_rows.specs.declared.table.RowTable.{RowTable}
use Rattle.lt_rows.specs.declared.pass.RowPass.{RowPass}
use Rattle.lt_rows.specs.declared.view.Row.{Row}
use Rattle.lt_rows.specs.declared.view.View.{View}
use Rattle.lt_rows.specs.Views.{row_at, rows_of}
use Rattle.lt_rows.specs.Handles.{knows, IsPassOf}
use Rattle.lt_rows.specs.Openings.{IsNew, AreItsPasses, rights_at}
use Rattle.lt_tree.specs.States.{HoldsNone}

-- of two numbers in a row, the first is 0 and the second 1
head_of : List ℕ → ℕ
head_of [] = 0
head_of (x ∷ xs) = x

tail_of : List ℕ → List ℕ
tail_of [] = []
tail_of (x ∷ xs) = xs

two_numbers : (a b : ℕ) → a ∷ b ∷ [] ≡ 0 ∷ 1 ∷ [] → (a ≡ 0) × (b ≡ 1)
unfolding head_of tail_of
two_numbers a b e = (ap head_of e, ap (λ (xs : List ℕ). head_of (tail_of xs)) e)

none_in : (n r : ℕ) → slice_index_or {A = Option Row} (replicate n None) r None ≡ None
none_in zero r = refl
none_in (suc n) zero = refl
none_in (suc n) (suc r) = none_in n r

-- the first has both rights, and neither holds a row
pub record AreBoth (t : RowTable) (one two : RowPass) : Type 0 where
  pub first : IsPassOf t one
  pub second : IsPassOf t two
  pub rights : one.rights ≡ 2
  pub none : two.rights ≡ 0
  pub holds : HoldsNone (knows one)
  pub holds_too : HoldsNone (knows two)

pub both_new : (t : RowTable) (k : RowPlan) (items xs ys : List RowPass) (one two : RowPass) → t.plan ≡ k → k.passes ≡ 2 → AreItsPasses t items
    → items ≡ xs ++ two ∷ [] → xs ≡ ys ++ one ∷ [] → AreBoth t one two
both_new t k items xs ys one two plan passes new last first = go ys (last ∙ ap (λ (l : List RowPass). l ++ two ∷ []) first)
  where
    count : t.plan.passes ≡ 2
    count = ap (λ (p : RowPlan). p.passes) plan ∙ passes

    numbers : map (λ (p : RowPass). p.number) items ≡ 0 ∷ 1 ∷ []
    numbers = new.numbers ∙ ap (numbers_from 0) count

    long : (l : List RowPass) → length (map (λ (p : RowPass). p.number) l) ≡ length l
    long [] = refl
    long (x ∷ l) = ap (λ (n : ℕ). suc n) (long l)

    go : (ys : List RowPass) → items ≡ (ys ++ one ∷ []) ++ two ∷ [] → AreBoth t one two
    go [] is =
        let new_all = subst (All (IsNew t.table.shared.table_id t.plan)) is new.each in
        let a = All-head (IsNew t.table.shared.table_id t.plan) one (two ∷ []) new_all in
        let b = All-head (IsNew t.table.shared.table_id t.plan) two [] (All-tail (IsNew t.table.shared.table_id t.plan) one (two ∷ []) new_all) in
        let n = two_numbers one.number two.number (ap (map (λ (p : RowPass). p.number)) (sym is) ∙ numbers) in
        record {
          first = a.of;
          second = b.of;
          rights = a.rights ∙ (ap (rights_at t.plan) n.0 ∙ count);
          none = b.rights ∙ ap (rights_at t.plan) n.1;
          holds = λ q. ap (λ (v : View). row_at v q) a.knows_is ∙ none_in (rows_of t.plan) q;
          holds_too = λ q. ap (λ (v : View). row_at v q) b.knows_is ∙ none_in (rows_of t.plan) q;
        }
    go (y ∷ []) is =
        let l = long items in
        let three : length items ≡ 3 = ap (λ (l : List RowPass). length l) is in
        let two_long : length (map (λ (p : RowPass). p.number) items) ≡ 2 = ap (λ (l : List ℕ). length l) numbers in
        absurd (omega arith)
    go (y ∷ z ∷ more) is =
        let l = long items in
        let many : length items ≡ suc (suc (length ((more ++ one ∷ []) ++ two ∷ []))) = ap (λ (l : List RowPass). length l) is in
        let some : length ((more ++ one ∷ []) ++ two ∷ []) ≡ suc (length (more ++ one ∷ [])) = length_one (more ++ one ∷ []) two in
        let two_long : length (map (λ (p : RowPass). p.number) items) ≡ 2 = ap (λ (l : List ℕ). length l) numbers in
        absurd (omega arith)
      where
        length_one : (l : List RowPass) (p : RowPass) → length (l ++ p ∷ []) ≡ suc (length l)
        length_one [] p = refl
        length_one (x ∷ l) p = ap (λ (n : ℕ). suc n) (length_one l p)
