-- Lists whose places rise: there is one of given elements.
use Rattle.std.proofs.Common.{◌≡◌, ℕ, zero, suc, ◌+◌, ◌<◌, ◌≤◌, List, [], ◌∷◌, length, Bool, true, false, ◌==◌, if◌then◌else◌, ◌⊎◌, inl}
use Rattle.std.proofs.Common.{inr, refl, sym, ap, ap₂, subst, arith, ◌∙◌}
use Rattle.std.specs.Prelude.{slice_index_or}
use Rattle.std.specs.List.{Contains, sum_by}
use Rattle.std.specs.List.Sorted.{IsPermutation, IsNonDecreasingBy}
use Rattle.std.proofs.lemmas.Bool.Decides.{nat_tests}
use Rattle.std.proofs.lemmas.List.Sorted.{IsPermutation-sym, IsNonDecreasingBy-drop, Contains-permutation, sum_by-IsPermutation}
use Rattle.std.proofs.lemmas.List.Sums.{sum_by-cons}

module _ {X : Type 0} (place : X → ℕ) where
  -- each place is above this one
  abbrev pub Over : ℕ → List X → Type 0
  Over p [] = Unit {0}
  Over p (r ∷ rs) = (p < place r) × Over p rs

  abbrev pub Climbs : List X → Type 0
  Climbs [] = Unit {0}
  Climbs (r ∷ rs) = Over (place r) rs × Climbs rs

  -- one where the receipt has this place
  abbrev at_place : ℕ → X → ℕ
  at_place p r = if place r == p then 1 else 0

  abbrev count : ℕ → List X → ℕ
  count p rs = sum_by (at_place p) rs

  over_less : (p q : ℕ) (rs : List X) → p ≤ q → Over q rs → Over p rs
  over_less p q [] below over = tt
  over_less p q (r ∷ rs) below over = (omega (arith, below, over.0), over_less p q rs below over.1)

  over_none : (p : ℕ) (rs : List X) → Over p rs → count p rs ≡ 0
  over_none p [] over = refl
  over_none p (r ∷ rs) over =
      let other : (place r == p) ≡ false = grind (arith, nat_tests, over.0) in
      grind (arith, over_none p rs over.1, other, sum_by-cons (at_place p) r rs)

  over_there : (p : ℕ) (rs : List X) (r : X) → Over p rs → Contains rs r → p < place r
  over_there p [] r over (k, inside, is) = absurd (omega (arith, inside))
  over_there p (x ∷ rs) r over (zero, inside, is) = subst (λ (y : X). p < place y) is over.0
  over_there p (x ∷ rs) r over (suc k, inside, is) = over_there p rs r over.1 (k, omega (arith, inside), is)

  -- in a list that climbs each place is there once
  once : (p : ℕ) (rs : List X) → Climbs rs → count p rs ≤ 1
  once p [] climbs = omega arith
  once p (r ∷ rs) climbs = omega (arith, sum_by-cons (at_place p) r rs, by_place (place r == p) refl (once p rs climbs.1))
    where
      by_place : (b : Bool) → (place r == p) ≡ b → count p rs ≤ 1 → (if b then 1 else 0) + count p rs ≤ 1
      by_place true is rest =
          let none : count p rs ≡ 0 = over_none p rs (over_less p (place r) rs (grind (arith, nat_tests, is)) climbs.0) in
          omega (arith, none)
      by_place false is rest = omega (arith, rest)

  -- and one that does not fall and has each place at most once climbs
  over : (p : ℕ) (rs : List X) → ((j : ℕ) (d : X) → j < length rs → p ≤ place (slice_index_or rs j d)) → count p rs ≡ 0 → Over p rs
  over p [] least none = tt
  over p (r ∷ rs) least none =
      by_place (place r == p) refl (sym (sum_by-cons (at_place p) r rs) ∙ none) (over p rs (λ j d inside. least (suc j) d (omega (arith, inside))))
    where
      low : p ≤ place r
      low = least 0 r (omega arith)

      by_place : (b : Bool) → (place r == p) ≡ b → (if b then 1 else 0) + count p rs ≡ 0 → (count p rs ≡ 0 → Over p rs) → (p < place r) × Over p rs
      by_place true is none rest = absurd (omega (arith, none))
      by_place false is none rest = (grind (arith, nat_tests, is, low), rest (omega (arith, none)))

  climbs : (rs : List X) → IsNonDecreasingBy place rs → ((p : ℕ) → count p rs ≤ 1) → Climbs rs
  climbs [] order single = tt
  climbs (r ∷ rs) order single =
      let own : (place r == place r) ≡ true = grind (arith, nat_tests) in
      let one : count (place r) (r ∷ rs) ≤ 1 = single (place r) in
      let is : count (place r) (r ∷ rs) ≡ (if place r == place r then 1 else 0) + count (place r) rs = sum_by-cons (at_place (place r)) r rs in
      let none : count (place r) rs ≡ 0 = grind (arith, one, own, is) in (
        over (place r) rs (λ j d inside. order 0 (suc j) d (omega arith) (omega (arith, inside))) none,
        climbs rs (IsNonDecreasingBy-drop place 1 (r ∷ rs) order) (λ p. omega (arith, single p, sum_by-cons (at_place p) r rs)),
      )

  -- Two such lists with the same receipts are one.

  there_later : (x r : X) (rs : List X) → Contains rs r → Contains (x ∷ rs) r
  there_later x r rs (k, inside, is) = (suc k, omega (arith, inside), is)

  -- what is in a list is its first, or among the others
  first_or_later : (x r : X) (rs : List X) → Contains (x ∷ rs) r → (x ≡ r) ⊎ Contains rs r
  first_or_later x r rs (zero, inside, is) = inl is
  first_or_later x r rs (suc k, inside, is) = inr (k, omega (arith, inside), is)

  one_list : (xs ys : List X) → Climbs xs → Climbs ys → ((r : X) → Contains xs r → Contains ys r)
      → ((r : X) → Contains ys r → Contains xs r) → xs ≡ ys
  one_list [] [] up down here there = refl
  one_list [] (y ∷ ys) up down here there = absurd (nowhere (there y (0, omega arith, refl)))
    where
      nowhere : Contains [] y → ⊥
      nowhere (k, inside, is) = omega (arith, inside)
  one_list (x ∷ xs) [] up down here there = absurd (nowhere (here x (0, omega arith, refl)))
    where
      nowhere : Contains [] x → ⊥
      nowhere (k, inside, is) = omega (arith, inside)
  one_list (x ∷ xs) (y ∷ ys) up down here there =
      same (first_or_later y x ys (here x (0, omega arith, refl))) (first_or_later x y xs (there y (0, omega arith, refl)))
      (λ is. one_list xs ys up.1 down.1
      (λ r at. later is r (over_there (place x) xs r up.0 at) (first_or_later y r ys (here r (there_later x r xs at))))
      (λ r at. sooner is r (over_there (place y) ys r down.0 at) (first_or_later x r xs (there r (there_later y r ys at)))))
    where
      later : y ≡ x → (r : X) → place x < place r → (y ≡ r) ⊎ Contains ys r → Contains ys r
      later is r above (inl first) = absurd (omega (arith, above, ap (λ (z : X). place z) first, ap (λ (z : X). place z) is))
      later is r above (inr among) = among

      sooner : y ≡ x → (r : X) → place y < place r → (x ≡ r) ⊎ Contains xs r → Contains xs r
      sooner is r above (inl first) = absurd (omega (arith, above, ap (λ (z : X). place z) first, ap (λ (z : X). place z) is))
      sooner is r above (inr among) = among

      same : (y ≡ x) ⊎ Contains ys x → (x ≡ y) ⊎ Contains xs y → (y ≡ x → xs ≡ ys) → x ∷ xs ≡ y ∷ ys
      same (inl is) other rest = ap₂ (λ (z : X) (zs : List X). z ∷ zs) (sym is) (rest is)
      same (inr among) (inl is) rest = ap₂ (λ (z : X) (zs : List X). z ∷ zs) is (rest (sym is))
      same (inr among) (inr too) rest = absurd (omega (arith, over_there (place y) ys x down.0 among, over_there (place x) xs y up.0 too))

  -- one list has the other's elements, by place
  pub one_order : (xs ys : List X) → IsPermutation xs ys → Climbs xs → IsNonDecreasingBy place ys → ys ≡ xs
  one_order xs ys moved climbing order =
      let up : Climbs ys = climbs ys order (λ p. omega (arith, sum_by-IsPermutation (at_place p) xs ys moved, once p xs climbing)) in
      one_list ys xs up climbing
      (λ r at. Contains-permutation ys xs r (IsPermutation-sym xs ys moved) at)
      (λ r at. Contains-permutation xs ys r moved at)
