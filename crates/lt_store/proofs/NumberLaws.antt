-- A number put into a set is put into the list of its numbers.
use Rattle.std.proofs.Common.{◌≡◌, ℕ, List, [], ◌∷◌, Bool, true, false, cond, nat_lt, ◌==◌, if◌then◌else◌, refl, ap}
use Rattle.std.specs.Ordering.{nat_cmp, match_ordering}
use Rattle.std.specs.declared.cmp.Ordering.TheVariants.{Less, Equal, Greater}
use Rattle.lt_ranges.specs.Numbers.{with_number}
use Rattle.std.specs.BTreeSet.{insert_key}

-- the set's own word for it
pub key_is_number : (n : ℕ) (ns : List ℕ) → insert_key nat_cmp ns n ≡ with_number n ns
key_is_number n [] = refl
key_is_number n (m ∷ ms) = by_tests (nat_lt n m) (n == m) (key_is_number n ms)
  where
    by_tests : (a b : Bool) → insert_key nat_cmp ms n ≡ with_number n ms →
        match_ordering (cond a Less (cond b Equal Greater)) (n ∷ m ∷ ms) (m ∷ ms) (m ∷ insert_key nat_cmp ms n) ≡ (if a then n ∷ m ∷ ms else if b then m ∷ ms else m ∷ with_number n ms)
    by_tests true b rest = refl
    by_tests false true rest = refl
    by_tests false false rest = ap (λ l. m ∷ l) rest
