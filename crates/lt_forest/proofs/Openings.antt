-- The forest of a table at the start: no tree has a row, and all further rows are in the pool.
use Rattle.std.proofs.Common.{◌≡◌, ℕ, zero, suc, ◌+◌, ◌-◌, ◌<◌, ◌≤◌, length, replicate, refl, sym, ap, subst, arith, eq-eqb, ne_eqb}
use Rattle.std.specs.Prelude.{nat_eq}
use Rattle.std.proofs.lemmas.List.{length-replicate}
use mathlib.Core.Logic.{dite}
use native.Mathlib.Decide.{ℕ_discrete}
use Rattle.lt_seq.specs.declared.event.Mode.TheVariants.{Tree as TreeMode}
use Rattle.lt_seq.specs.Passes.{numbers_from}
use Rattle.lt_seq.specs.Table.{TreeState, fresh, tree_at}
use Rattle.lt_forest.specs.Counts.{one_if, times, total}
use Rattle.lt_forest.specs.Trees.{Nodes}
use Rattle.lt_forest.specs.Forest.{IsChain, IsForest}
use Rattle.lt_forest.specs.Openings.{IsOpening, opening_forest}

total_zero : (n : ℕ) → total (λ _. 0) n ≡ 0
total_zero zero = refl
total_zero (suc n) = let r = total_zero n in omega arith

fresh_at : (n t : ℕ) → tree_at (replicate n fresh) t ≡ fresh
fresh_at zero t = refl
fresh_at (suc n) zero = refl
fresh_at (suc n) (suc t) = fresh_at n t

length-numbers_from : (n count : ℕ) → length (numbers_from n count) ≡ count
length-numbers_from n zero = refl
length-numbers_from n (suc count) = ap suc (length-numbers_from (n + 1) count)

-- a number stands among them once, where it is one of them
none_below : (r n count : ℕ) → r < n → times r (numbers_from n count) ≡ 0
none_below r n zero lt = refl
none_below r n (suc count) lt =
    let i = none_below r (n + 1) count (omega arith) in
    let o : one_if (nat_eq n r) ≡ 0 = ap one_if (ne_eqb n r (λ e. omega arith)) in
    omega arith

once_in : (r n count : ℕ) → n ≤ r → r < n + count → times r (numbers_from n count) ≡ 1
once_in r n zero lo hi = absurd (omega arith)
once_in r n (suc count) lo hi = dite (ℕ_discrete n r)
    (λ e.
    let o : one_if (nat_eq n r) ≡ 1 = ap one_if (eq-eqb n r e) in
    let i = none_below r (n + 1) count (omega arith) in
    omega arith)
    (λ ne.
    let o : one_if (nat_eq n r) ≡ 0 = ap one_if (ne_eqb n r ne) in
    let i = once_in r (n + 1) count (omega arith) (omega arith) in
    omega arith)

among : (r n count : ℕ) → 0 < times r (numbers_from n count) → (n ≤ r) × (r < n + count)
among r n zero some = absurd (omega (arith, some))
among r n (suc count) some = dite (ℕ_discrete n r)
    (λ e. (omega arith, omega arith))
    (λ ne.
    let o : one_if (nat_eq n r) ≡ 0 = ap one_if (ne_eqb n r ne) in
    let i = among r (n + 1) count (omega arith) in
    let a = i.0 in
    let b = i.1 in
    (omega arith, omega arith))

module _ {trees rows : ℕ} {c : Nodes} (opening : IsOpening trees rows c) where
  -- the pool's rows from one of them on
  pool_from : (n count : ℕ) → trees ≤ n → n + 1 + count ≡ rows → IsChain c (c n).left (numbers_from (n + 1) count)
  pool_from n zero lo all = let l = opening.last in subst (λ (m : ℕ). (c m).left ≡ 0) (omega arith) l
  pool_from n (suc count) lo all = (
    (let e = opening.next n lo (omega arith) in omega arith),
    pool_from (n + 1) count (omega arith) (omega arith),
  )

  pub opens : IsForest trees rows c (λ _. TreeMode 100) (replicate trees fresh) (opening_forest trees rows)
  opens = record {
    size = length-replicate trees fresh;
    grown = λ t lt. (opening.empty t lt, ap (λ (s : TreeState). s.pairs) (sym (fresh_at trees t)));
    modes = λ t lt. ap (λ (s : TreeState). s.mode) (sym (fresh_at trees t));
    vacant = let r = opening.room in pool_from trees (rows - (trees + 1)) (omega arith) (omega arith);
    once = λ r lo hi.
        let z = total_zero trees in
        let o = once_in r (trees + 1) (rows - (trees + 1)) (omega arith) (omega arith) in
        omega arith;
    further = λ r some.
        let z = total_zero trees in
        let a = among r (trees + 1) (rows - (trees + 1)) (omega arith) in
        let x = a.0 in
        let y = a.1 in
        (omega arith, omega arith);
    many =
        let z = total_zero trees in
        let l = length-numbers_from (trees + 1) (rows - (trees + 1)) in
        let r = opening.room in
        omega arith;
  }
