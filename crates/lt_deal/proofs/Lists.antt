-- On totals over views, and on lists.
use Rattle.std.proofs.Common.{◌≡◌, ◌≢◌, ⊎_elim, ℕ, zero, suc, ◌+◌, ◌<◌, ◌≤◌, List, [], ◌∷◌, ◌++◌, length, set, refl, sym, ap, subst, arith, eq-eqb}
use mathlib.Core.Option.{some, some-injective, some-ne-none}
use lib.ListN.{get_elem?}
use Rattle.std.specs.Prelude.{nat_eq, nat_lt, Bool, true, false}
use Rattle.std.proofs.lemmas.Bool.{ltb-true, ltb-false}
use borrow.Author.Tests.{eqb-true}
use Rattle.atomic_table.proofs.Lists.{at_set}
use Rattle.lt_deal.specs.declared.view.View.{View}
use Rattle.lt_deal.specs.Rule.{total, times, weight, below}

module _ {T : Type 0} where
  pub total_set : (f : View T → ℕ) (views : List (View T)) (i : ℕ) (v w : View T) → get_elem? views i ≡ some v → total f (set views i w) + f v ≡ total f views + f w
  total_set f [] i v w e = absurd (some-ne-none v (sym e))
  total_set f (x ∷ xs) zero v w e = let is : f x ≡ f v = ap f (some-injective x v e) in omega arith
  total_set f (x ∷ xs) (suc i) v w e = let r = total_set f xs i v w e in omega arith

  pub total_has : (f : View T → ℕ) (views : List (View T)) (i : ℕ) (v : View T) → get_elem? views i ≡ some v → f v ≤ total f views
  total_has f [] i v e = absurd (some-ne-none v (sym e))
  total_has f (x ∷ xs) zero v e = let is : f x ≡ f v = ap f (some-injective x v e) in omega arith
  total_has f (x ∷ xs) (suc i) v e = let r = total_has f xs i v e in omega arith

  -- two views apart have no more than the total
  pub total_two : (f : View T → ℕ) (views : List (View T)) (i j : ℕ) (v w : View T) → i ≢ j → get_elem? views i ≡ some v → get_elem? views j ≡ some w → f v + f w ≤ total f views
  total_two f [] i j v w ne e e' = absurd (some-ne-none v (sym e))
  total_two f (x ∷ xs) zero zero v w ne e e' = absurd (ne refl)
  total_two f (x ∷ xs) zero (suc j) v w ne e e' = let is : f x ≡ f v = ap f (some-injective x v e) in let r = total_has f xs j w e' in omega arith
  total_two f (x ∷ xs) (suc i) zero v w ne e e' = let is : f x ≡ f w = ap f (some-injective x w e') in let r = total_has f xs i v e in omega arith
  total_two f (x ∷ xs) (suc i) (suc j) v w ne e e' = let r = total_two f xs i j v w (λ h. ne (ap suc h)) e e' in omega arith

  pub total_le : (f g : View T → ℕ) (views : List (View T)) → ((i : ℕ) (v : View T) → get_elem? views i ≡ some v → f v ≤ g v) → total f views ≤ total g views
  total_le f g [] h = omega arith
  total_le f g (x ∷ xs) h = let a = h zero x refl in let r = total_le f g xs (λ i v e. h (suc i) v e) in omega arith

  pub total_snoc : (f : View T → ℕ) (views : List (View T)) (v : View T) → total f (views ++ v ∷ []) ≡ total f views + f v
  total_snoc f [] v = omega arith
  total_snoc f (x ∷ xs) v = let r = total_snoc f xs v in omega arith

  pub total_same : (f : View T → ℕ) (views : List (View T)) (i : ℕ) (v w : View T) → get_elem? views i ≡ some v → f w ≡ f v → total f (set views i w) ≡ total f views
  total_same f views i v w e same = let r = total_set f views i v w e in omega arith

  pub all_none : (f : View T → ℕ) (views : List (View T)) → ((i : ℕ) (v : View T) → get_elem? views i ≡ some v → f v ≡ 0) → total f views ≡ 0
  all_none f [] h = refl
  all_none f (x ∷ xs) h = let a = h zero x refl in let r = all_none f xs (λ i v e. h (suc i) v e) in omega arith

  -- what holds of each view after a change of one
  pub views_set : (F : ℕ → View T → Type 0) (views : List (View T)) (id : ℕ) (w : View T) → ((j : ℕ) (u : View T) → j ≢ id → get_elem? views j ≡ some u → F j u) → F id w
      → (j : ℕ) (u : View T) → get_elem? (set views id w) j ≡ some u → F j u
  views_set F views id w others mine j u e =
      ⊎_elim
      (λ (x : (j ≡ id) × (w ≡ u)). subst (λ (y : ℕ × View T). F y.0 y.1) (λ i. (sym x.0 i, x.1 i)) mine)
      (λ (x : (j ≢ id) × (get_elem? views j ≡ some u)). others j u x.0 x.1)
      (at_set views id j w u e)

module _ {A : Type 0} where
  pub at_len : (l : List A) (i : ℕ) (a : A) → get_elem? l i ≡ some a → i < length l
  at_len [] i a e = absurd (some-ne-none a (sym e))
  at_len (x ∷ xs) zero a e = omega arith
  at_len (x ∷ xs) (suc i) a e = let r = at_len xs i a e in omega arith

  pub at_some : (l : List A) (i : ℕ) → i < length l → (a : A) × (get_elem? l i ≡ some a)
  at_some [] i h = absurd (omega arith)
  at_some (x ∷ xs) zero h = (x, refl)
  at_some (x ∷ xs) (suc i) h = at_some xs i (omega arith)

pub times_append : (k : ℕ) (xs ys : List ℕ) → times k (xs ++ ys) ≡ times k xs + times k ys
times_append k [] ys = omega arith
times_append k (x ∷ xs) ys = let r = times_append k xs ys in omega arith

pub weight_same : (k : ℕ) → weight (nat_eq k k) ≡ 1
weight_same k = ap weight (eq-eqb k k refl)

pub weight_else : (x k : ℕ) → x ≢ k → weight (nat_eq x k) ≡ 0
weight_else x k ne = go (nat_eq x k) refl
  where
    go : (b : Bool) → nat_eq x k ≡ b → weight b ≡ 0
    go true e = absurd (ne (eqb-true x k e))
    go false e = refl

pub below_yes : (n k : ℕ) → k < n → below n k ≡ 1
below_yes n k h = go (nat_lt k n) refl
  where
    go : (b : Bool) → nat_lt k n ≡ b → weight b ≡ 1
    go true e = refl
    go false e = let m = ltb-false k n e in absurd (omega arith)

pub below_not : (n k : ℕ) → n ≤ k → below n k ≡ 0
below_not n k h = go (nat_lt k n) refl
  where
    go : (b : Bool) → nat_lt k n ≡ b → weight b ≡ 0
    go true e = let m = ltb-true k n e in absurd (omega arith)
    go false e = refl
