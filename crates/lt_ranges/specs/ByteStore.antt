-- How bytes lie in a store of fixed size.
use Rattle.std.specs.Prelude.{◌≡◌, ℕ, ◌-◌, ◌≤◌, List, length, take, replicate, ◌++◌}
use Rattle.lt_ranges.specs.Numbers.{AreBytes}
use Rattle.std.proofs.Common.{sym, ap, subst, ◌∙◌, length-take-le}

-- the first bytes, as many as are counted, are the value's, and the others are 0
pub record IsPadded (room : ℕ) (bytes : List ℕ) (count : ℕ) : Type 0 where
  pub small : room ≤ 255
  pub bound : count ≤ room
  pub filled : length bytes ≡ room
  pub of_bytes : AreBytes (take count bytes)
  pub rest : bytes ≡ take count bytes ++ replicate (room - count) 0

-- the store has as many bytes of the value as it counts
pub count_again : (room : ℕ) (bytes : List ℕ) (count : ℕ) → IsPadded room bytes count → length (take count bytes) ≡ count
count_again room bytes count padded =
    length-take-le count bytes (subst (λ n. count ≤ n) (sym padded.filled) padded.bound)

-- the store is got back from the value's bytes
pub padded_again : (room : ℕ) (bytes : List ℕ) (count : ℕ) → IsPadded room bytes count → take count bytes ++ replicate (room - length (take count bytes)) 0 ≡ bytes
padded_again room bytes count padded =
    ap (λ n. take count bytes ++ replicate (room - n) 0) (count_again room bytes count padded) ∙ sym padded.rest
