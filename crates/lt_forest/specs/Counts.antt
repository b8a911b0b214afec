-- How often a number stands in a list, and sums over the numbers below one.
use Rattle.std.specs.Prelude.{ℕ, zero, suc, ◌+◌, List, [], ◌∷◌, Bool, true, false, nat_eq}

abbrev pub one_if : Bool → ℕ
one_if true = 1
one_if false = 0

-- how often r stands in the list
abbrev pub times : ℕ → List ℕ → ℕ
times r [] = 0
times r (x ∷ xs) = one_if (nat_eq x r) + times r xs

-- the sum of f below n
abbrev pub total : (ℕ → ℕ) → ℕ → ℕ
total f zero = 0
total f (suc n) = total f n + f n
