-- The order of lists of numbers, and that two least walks are one.
use Rattle.std.proofs.Common.{◌≡◌, ℕ, ◌≤◌, ◌<◌, List, [], ◌∷◌, length, true, false, refl, sym, subst, inl, inr, arith}
use Rattle.std.specs.Ordering.{nat_cmp, is_le}
use Rattle.std.specs.Cmp.Lexicographic.{slice_cmp}
use Rattle.std.proofs.lemmas.Bool.{cases_eq}
use Rattle.std.proofs.lemmas.Bool.Decides.{nat_tests}
use Rattle.lt_waits.specs.declared.wait.Wait.{Wait}
use Rattle.lt_waits.specs.Walks.{IsAtMost, IsLeastWalk}

pub at_most_less : (a b : ℕ) (xs ys : List ℕ) → a < b → IsAtMost (a ∷ xs) (b ∷ ys)
at_most_less a b xs ys less = grind (arith, nat_tests)

pub at_most_same : (a : ℕ) (xs ys : List ℕ) → IsAtMost xs ys → IsAtMost (a ∷ xs) (a ∷ ys)
at_most_same a xs ys rest = grind (arith, nat_tests)

pub at_most_first : (a b : ℕ) (xs ys : List ℕ) → a ≤ b → (a ≡ b → IsAtMost xs ys) → IsAtMost (a ∷ xs) (b ∷ ys)
at_most_first a b xs ys less rest = elim (cases_eq a b) [
  | inl same ↦ subst (λ n. IsAtMost (a ∷ xs) (n ∷ ys)) same (at_most_same a xs ys (rest same))
  | inr apart ↦ at_most_less a b xs ys (omega (arith, less, apart))
]

first_at_most : (a b : ℕ) (xs ys : List ℕ) → IsAtMost (a ∷ xs) (b ∷ ys) → a ≤ b
first_at_most a b xs ys h = grind (arith, nat_tests)

rest_at_most : (a : ℕ) (xs ys : List ℕ) → IsAtMost (a ∷ xs) (a ∷ ys) → IsAtMost xs ys
rest_at_most a xs ys h = grind (arith, nat_tests)

pub at_most_itself : (xs : List ℕ) → IsAtMost xs xs
at_most_itself [] = refl
at_most_itself (x ∷ xs) = at_most_same x xs xs (at_most_itself xs)

pub at_most_then : (xs ys zs : List ℕ) → IsAtMost xs ys → IsAtMost ys zs → IsAtMost xs zs
at_most_then [] ys [] h k = refl
at_most_then [] ys (z ∷ zs) h k = refl
at_most_then (x ∷ xs) [] zs h k = absurd (let no : false ≡ true → ⊥ = λ e. cc in no h)
at_most_then (x ∷ xs) (y ∷ ys) [] h k = absurd (let no : false ≡ true → ⊥ = λ e. cc in no k)
at_most_then (x ∷ xs) (y ∷ ys) (z ∷ zs) h k =
    let one = first_at_most x y xs ys h in
    let two = first_at_most y z ys zs k in
    at_most_first x z xs zs (omega (arith, one, two)) (λ same.
    let xy : x ≡ y = omega (arith, one, two, same) in
    let yz : y ≡ z = omega (arith, one, two, same) in
    at_most_then xs ys zs
    (rest_at_most y xs ys (subst (λ n. IsAtMost (n ∷ xs) (y ∷ ys)) xy h))
    (rest_at_most z ys zs (subst (λ n. IsAtMost (n ∷ ys) (z ∷ zs)) yz k)))

pub at_most_both : (xs ys : List ℕ) → IsAtMost xs ys → IsAtMost ys xs → xs ≡ ys
at_most_both [] [] h k = refl
at_most_both [] (y ∷ ys) h k = absurd (let no : false ≡ true → ⊥ = λ e. cc in no k)
at_most_both (x ∷ xs) [] h k = absurd (let no : false ≡ true → ⊥ = λ e. cc in no h)
at_most_both (x ∷ xs) (y ∷ ys) h k =
    let same : x ≡ y = omega (arith, first_at_most x y xs ys h, first_at_most y x ys xs k) in
    let rest = at_most_both xs ys
    (rest_at_most y xs ys (subst (λ n. IsAtMost (n ∷ xs) (y ∷ ys)) same h))
    (rest_at_most y ys xs (subst (λ n. IsAtMost (y ∷ ys) (n ∷ xs)) same k)) in
    cc

pub at_most_either : (xs ys : List ℕ) → is_le (slice_cmp nat_cmp xs ys) ≡ false → IsAtMost ys xs
at_most_either [] [] h = refl
at_most_either [] (y ∷ ys) h = absurd (let no : true ≡ false → ⊥ = λ e. cc in no h)
at_most_either (x ∷ xs) [] h = refl
at_most_either (x ∷ xs) (y ∷ ys) h = at_most_first y x ys xs (more x y xs ys h) (λ same. at_most_either xs ys (rest_more x xs ys (subst (λ n. is_le (slice_cmp nat_cmp (x ∷ xs) (n ∷ ys)) ≡ false) same h)))
  where
    more : (x y : ℕ) (xs ys : List ℕ) → is_le (slice_cmp nat_cmp (x ∷ xs) (y ∷ ys)) ≡ false → y ≤ x
    more x y xs ys h = grind (arith, nat_tests)

    rest_more : (x : ℕ) (xs ys : List ℕ) → is_le (slice_cmp nat_cmp (x ∷ xs) (x ∷ ys)) ≡ false → is_le (slice_cmp nat_cmp xs ys) ≡ false
    rest_more x xs ys h = grind (arith, nat_tests)

pub least_walks_one : (edges : List Wait) (txn : ℕ) (one other : List ℕ) → IsLeastWalk edges txn one → IsLeastWalk edges txn other → one ≡ other
least_walks_one edges txn one other first second =
    let long : length other ≡ length one = omega (arith, first.fewest other second.closed, second.fewest one first.closed) in
    at_most_both one other (first.least other second.closed long) (second.least one first.closed (sym long))
