-- How often a number stands in a list, and that two ascending lists in which each stands as often are one.
use Rattle.std.proofs.Common.{◌≡◌, ℕ, zero, suc, ◌+◌, ◌<◌, ◌≤◌, List, [], ◌∷◌, ◌++◌, Bool, true, false, ◌==◌, ◌||◌, if◌then◌else◌, IsTrue, length}
use Rattle.std.proofs.Common.{get_or, map, nat_cmp, refl, sym, ap, ap₂, ◌∙◌, arith, eq-eqb}
use Rattle.std.specs.Prelude.{slice_index_or}
use Rattle.std.specs.List.{AllByRecursion, flat_map, sum_by}
use Rattle.std.specs.List.Sorted.{IsPermutation, IsNonDecreasingBy, IsStrictlySortedBy}
use Rattle.std.specs.declared.cmp.Ordering.TheVariants.{Less}
use Rattle.std.proofs.lemmas.Bool.{false≢true}
use Rattle.std.proofs.lemmas.Bool.Decides.{nat_tests}
use Rattle.std.proofs.lemmas.Cmp.{ranked}
use Rattle.std.proofs.lemmas.List.Sorted.{IsNonDecreasingBy-drop, sum_by-IsPermutation}
use Rattle.std.proofs.lemmas.List.Sums.{sum_by-cons}
use Rattle.lt_ranges.specs.Numbers.{is_in}
use Rattle.lt_trace.specs.declared.line.Line.{Line}
use Rattle.lt_trace.specs.Grammar.{txns_of}
use Rattle.lt_runner.proofs.OrderLaws.{ascending_sorted}
use Rattle.lt_live.specs.Deals.{times}

-- One number more.

test_zero : (b : Bool) (n : ℕ) → b ≡ false → (if b then 1 else 0) + n ≡ n
test_zero true n e = absurd (false≢true (sym e))
test_zero false n e = omega arith

test_one : (b : Bool) (n : ℕ) → b ≡ true → (if b then 1 else 0) + n ≡ suc n
test_one true n e = omega arith
test_one false n e = absurd (false≢true e)

pub times_own : (x y : ℕ) (ns : List ℕ) → y ≡ x → times x (y ∷ ns) ≡ suc (times x ns)
times_own x y ns same = test_one (y == x) (times x ns) (eq-eqb y x same)

pub times_other : (x y : ℕ) (ns : List ℕ) → (y == x) ≡ false → times x (y ∷ ns) ≡ times x ns
times_other x y ns apart = test_zero (y == x) (times x ns) apart

pub times_fewer : (x y : ℕ) (ns : List ℕ) → times x ns ≤ times x (y ∷ ns)
times_fewer x y ns = omega arith

pub times_append : (x : ℕ) (ns ms : List ℕ) → times x (ns ++ ms) ≡ times x ns + times x ms
times_append x [] ms = omega arith
times_append x (n ∷ ns) ms = let rest = times_append x ns ms in omega (arith, rest)

-- A number that stands in a list.

or_right : (a b : Bool) → IsTrue b → IsTrue (a || b)
or_right true b e = refl
or_right false b e = e

pub times_there : (x : ℕ) (ns : List ℕ) → IsTrue (is_in x ns) → 1 ≤ times x ns
times_there x [] there = absurd (false≢true there)
times_there x (n ∷ ns) there = by_test (n == x) refl there (λ e. times_there x ns e)
  where
    by_test : (b : Bool) → (n == x) ≡ b → IsTrue (b || is_in x ns) → (IsTrue (is_in x ns) → 1 ≤ times x ns) → 1 ≤ times x (n ∷ ns)
    by_test true h e later = let k = test_one (n == x) (times x ns) h in omega (arith, k)
    by_test false h e later = let rest = later e in let k = test_zero (n == x) (times x ns) h in omega (arith, rest, k)

pub there_times : (x : ℕ) (ns : List ℕ) → 1 ≤ times x ns → IsTrue (is_in x ns)
there_times x [] some = absurd (omega (arith, some))
there_times x (n ∷ ns) some = by_test (n == x) refl (λ k. there_times x ns k)
  where
    by_test : (b : Bool) → (n == x) ≡ b → (1 ≤ times x ns → IsTrue (is_in x ns)) → IsTrue (b || is_in x ns)
    by_test true h later = refl
    by_test false h later = later (let k = test_zero (n == x) (times x ns) h in omega (arith, some, k))

-- Several lists.

-- it stands in one of them no oftener than in all
pub times_in_one : (x : ℕ) (lists : List (List ℕ)) (i : ℕ) → times x (get_or lists i []) ≤ times x (flat_map (λ ns. ns) lists)
times_in_one x [] i = omega arith
times_in_one x (ns ∷ lists) zero = let both = times_append x ns (flat_map (λ ms. ms) lists) in omega (arith, both)
times_in_one x (ns ∷ lists) (suc i) =
    let both = times_append x ns (flat_map (λ ms. ms) lists) in
    let rest = times_in_one x lists i in
    omega (arith, both, rest)

-- one that stands in all of them once at most stands in one alone
pub one_list : (x : ℕ) (lists : List (List ℕ)) (i j : ℕ) → times x (flat_map (λ ns. ns) lists) ≤ 1 → 1 ≤ times x (get_or lists i []) →
    1 ≤ times x (get_or lists j []) → i ≡ j
one_list x [] i j once here there = absurd (omega (arith, here))
one_list x (ns ∷ lists) zero zero once here there = refl
one_list x (ns ∷ lists) zero (suc j) once here there =
    let both = times_append x ns (flat_map (λ ms. ms) lists) in
    let rest = times_in_one x lists j in
    absurd (omega (arith, once, both, rest, here, there))
one_list x (ns ∷ lists) (suc i) zero once here there =
    let both = times_append x ns (flat_map (λ ms. ms) lists) in
    let rest = times_in_one x lists i in
    absurd (omega (arith, once, both, rest, here, there))
one_list x (ns ∷ lists) (suc i) (suc j) once here there =
    let both = times_append x ns (flat_map (λ ms. ms) lists) in
    ap suc (one_list x lists i j (omega (arith, once, both)) here there)

-- Numbers that rise.

abbrev AllAbove : ℕ → List ℕ → Type 0
AllAbove x ns = AllByRecursion (λ y. x < y) ns

abbrev Rises : List ℕ → Type 0
Rises [] = Unit {0}
Rises (x ∷ xs) = AllAbove x xs × Rises xs

above : (x : ℕ) (ns : List ℕ) → AllByRecursion (λ y. nat_cmp x y ≡ Less) ns → AllAbove x ns
above x [] all = tt
above x (n ∷ ns) all = (ranked x n _ (sym all.0), above x ns all.1)

rises : (ns : List ℕ) → IsStrictlySortedBy nat_cmp ns → Rises ns
unfolding IsStrictlySortedBy
rises [] sorted = tt
rises (n ∷ ns) sorted = (above n ns sorted.0, rises ns sorted.1)

txns_rise : (lines : List Line) → Rises (txns_of lines)
txns_rise lines = rises (txns_of lines) (ascending_sorted (map (λ (line : Line). line.txn) lines))

-- one that is no greater than what all are above stands there not
times_above : (x y : ℕ) (ns : List ℕ) → x ≤ y → AllAbove y ns → times x ns ≡ 0
times_above x y [] low all = refl
times_above x y (n ∷ ns) low all =
    let apart : (n == x) ≡ false = (let k = all.0 in grind (arith, nat_tests)) in
    test_zero (n == x) (times x ns) apart ∙ times_above x y ns low all.1

times_rises : (x : ℕ) (ns : List ℕ) → Rises ns → times x ns ≤ 1
times_rises x [] up = omega arith
times_rises x (n ∷ ns) up = by_test (n == x) refl (times_rises x ns up.1)
  where
    by_test : (b : Bool) → (n == x) ≡ b → times x ns ≤ 1 → times x (n ∷ ns) ≤ 1
    by_test true h few =
        let low : x ≤ n = grind (arith, nat_tests) in
        let rest = times_above x n ns low up.0 in
        let k = test_one (n == x) (times x ns) h in
        omega (arith, rest, k)
    by_test false h few = let k = test_zero (n == x) (times x ns) h in omega (arith, few, k)

-- a trace has each transaction once
pub txns_once : (x : ℕ) (lines : List Line) → times x (txns_of lines) ≤ 1
txns_once x lines = times_rises x (txns_of lines) (txns_rise lines)

-- Numbers that do not fall.

abbrev AllFrom : ℕ → List ℕ → Type 0
AllFrom x ns = AllByRecursion (λ y. x ≤ y) ns

abbrev Ascends : List ℕ → Type 0
Ascends [] = Unit {0}
Ascends (x ∷ xs) = AllFrom x xs × Ascends xs

module _ {X : Type 0} (number : X → ℕ) where
  from : (n : ℕ) (xs : List X) → ((j : ℕ) (d : X) → j < length xs → n ≤ number (slice_index_or xs j d)) → AllFrom n (map number xs)
  from n [] least = tt
  from n (x ∷ xs) least = (least 0 x (omega arith), from n xs (λ j d inside. least (suc j) d (omega (arith, inside))))

  ascends : (xs : List X) → IsNonDecreasingBy number xs → Ascends (map number xs)
  ascends [] order = tt
  ascends (x ∷ xs) order = (
    from (number x) xs (λ j d inside. order 0 (suc j) d (omega arith) (omega (arith, inside))),
    ascends xs (IsNonDecreasingBy-drop number 1 (x ∷ xs) order),
  )

  -- how often a number stands among those of a list, in whatever order it is
  times_sum : (n : ℕ) (xs : List X) → times n (map number xs) ≡ sum_by (λ x. if number x == n then 1 else 0) xs
  times_sum n [] = refl
  times_sum n (x ∷ xs) =
      let more = sum_by-cons (λ (y : X). if number y == n then 1 else 0) x xs in
      let rest = times_sum n xs in
      omega (arith, more, rest)

  pub times_moved : (n : ℕ) (xs ys : List X) → IsPermutation xs ys → times n (map number ys) ≡ times n (map number xs)
  times_moved n xs ys moved =
      times_sum n ys ∙ sum_by-IsPermutation (λ (x : X). if number x == n then 1 else 0) xs ys moved ∙ sym (times_sum n xs)

-- what stands in such a list is no less than its bound
times_from : (x n : ℕ) (ns : List ℕ) → AllFrom n ns → 1 ≤ times x ns → n ≤ x
times_from x n [] all some = absurd (omega (arith, some))
times_from x n (m ∷ ms) all some = by_test (m == x) refl (λ k. times_from x n ms all.1 k)
  where
    by_test : (b : Bool) → (m == x) ≡ b → (1 ≤ times x ms → n ≤ x) → n ≤ x
    by_test true h later = let k = all.0 in grind (arith, nat_tests)
    by_test false h later = later (let k = test_zero (m == x) (times x ms) h in omega (arith, some, k))

from_above : (x : ℕ) (ns : List ℕ) → AllAbove x ns → AllFrom x ns
from_above x [] all = tt
from_above x (n ∷ ns) all = (omega (arith, all.0), from_above x ns all.1)

abbrev one_at : ℕ → ℕ → ℕ
one_at y x = if y == x then 1 else 0

one_order : (ns ms : List ℕ) → Ascends ns → Rises ms → ((x : ℕ) → times x ns ≡ times x ms) → ns ≡ ms
one_order [] [] up down same = refl
one_order [] (m ∷ ms) up down same = let k = same m in let own = times_own m m ms refl in absurd (omega (arith, k, own))
one_order (n ∷ ns) [] up down same = let k = same n in let own = times_own n n ns refl in absurd (omega (arith, k, own))
one_order (n ∷ ns) (m ∷ ms) up down same = ap₂ (λ (x : ℕ) (xs : List ℕ). x ∷ xs) first (one_order ns ms up.1 down.1 rest)
  where
    low : n ≤ m
    low =
        let k = same m in
        let own = times_own m m ms refl in
        times_from m n (n ∷ ns) (omega arith, up.0) (omega (arith, k, own))

    high : m ≤ n
    high =
        let k = same n in
        let own = times_own n n ns refl in
        times_from n m (m ∷ ms) (omega arith, from_above m ms down.0) (omega (arith, k, own))

    first : n ≡ m
    first = omega (arith, low, high)

    rest : (x : ℕ) → times x ns ≡ times x ms
    rest x =
        let k = same x in
        let e : one_at n x ≡ one_at m x = ap (λ (y : ℕ). one_at y x) first in
        omega (arith, k, e)

-- where the transactions of these are those of the trace, and do not fall, they are the trace's in its order
pub txns_in_order : {X : Type 0} (number : X → ℕ) (xs : List X) (lines : List Line) → IsNonDecreasingBy number xs →
    ((x : ℕ) → times x (map number xs) ≡ times x (txns_of lines)) → map number xs ≡ txns_of lines
txns_in_order number xs lines order same = one_order (map number xs) (txns_of lines) (ascends number xs order) (txns_rise lines) same
