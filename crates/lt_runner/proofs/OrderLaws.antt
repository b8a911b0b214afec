-- Numbers put into an ascending list ascend.
use Rattle.std.proofs.Common.{◌≡◌, ℕ, ◌<◌, List, [], ◌∷◌, Bool, true, false, ◌==◌, nat_lt, cond, if◌then◌else◌, nat_cmp, refl, sym, arith}
use Rattle.std.specs.declared.cmp.Ordering.TheVariants.{Less, Equal, Greater}
use Rattle.std.specs.List.{AllByRecursion, fold}
use Rattle.std.specs.List.Sorted.{IsStrictlySortedBy}
use Rattle.std.proofs.lemmas.Bool.Decides.{nat_tests}
use Rattle.std.proofs.lemmas.Cmp.{ranked}
use Rattle.lt_ranges.specs.Numbers.{with_number, ascending}
use Rattle.lt_runner.proofs.ChoiceLaws.{on_true}

abbrev AllAbove : ℕ → List ℕ → Type 0
AllAbove n ns = AllByRecursion (λ m. nat_cmp n m ≡ Less) ns

less_is : (n m : ℕ) → n < m → nat_cmp n m ≡ Less
less_is n m less = on_true (nat_lt n m) Less (cond (n == m) Equal Greater) (grind (arith, nat_tests))

above_on : (n m : ℕ) (ns : List ℕ) → n < m → AllAbove m ns → AllAbove n ns
above_on n m [] less all = tt
above_on n m (k ∷ ks) less all = (less_is n k (let more : m < k = ranked m k _ (sym all.0) in omega arith), above_on n m ks less all.1)

above_with : (m n : ℕ) (ns : List ℕ) → m < n → AllAbove m ns → AllAbove m (with_number n ns)
above_with m n [] less all = (less_is m n less, tt)
above_with m n (k ∷ ks) less all = by_tests (nat_lt n k) (n == k) (above_with m n ks less all.1)
  where
    by_tests : (a b : Bool) → AllAbove m (with_number n ks) → AllAbove m (if a then n ∷ k ∷ ks else if b then k ∷ ks else k ∷ with_number n ks)
    by_tests true b rest = (less_is m n less, all)
    by_tests false true rest = all
    by_tests false false rest = (all.0, rest)

sorted_with : (n : ℕ) (ns : List ℕ) → IsStrictlySortedBy nat_cmp ns → IsStrictlySortedBy nat_cmp (with_number n ns)
unfolding IsStrictlySortedBy
sorted_with n [] sorted = (tt, tt)
sorted_with n (m ∷ ms) sorted = by_tests (nat_lt n m) (n == m) refl refl (sorted_with n ms sorted.1)
  where
    by_tests : (a b : Bool) → nat_lt n m ≡ a → (n == m) ≡ b → IsStrictlySortedBy nat_cmp (with_number n ms) → IsStrictlySortedBy nat_cmp (if a then n ∷ m ∷ ms else if b then m ∷ ms else m ∷ with_number n ms)
    by_tests true b less e rest = let h : n < m = grind (arith, nat_tests) in ((less_is n m h, above_on n m ms h sorted.0), sorted)
    by_tests false true less e rest = sorted
    by_tests false false less e rest = let h : m < n = grind (arith, nat_tests) in (above_with m n ms h sorted.0, rest)

sorted_fold : (old ns : List ℕ) → IsStrictlySortedBy nat_cmp old → IsStrictlySortedBy nat_cmp (fold (λ list n. with_number n list) old ns)
sorted_fold old [] sorted = sorted
sorted_fold old (n ∷ ns) sorted = sorted_fold (with_number n old) ns (sorted_with n old sorted)

none_sorted : IsStrictlySortedBy nat_cmp []
unfolding IsStrictlySortedBy
none_sorted = tt

pub ascending_sorted : (ns : List ℕ) → IsStrictlySortedBy nat_cmp (ascending ns)
ascending_sorted ns = sorted_fold [] ns none_sorted
