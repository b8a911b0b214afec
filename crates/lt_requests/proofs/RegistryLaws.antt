-- Wishes that ascend by transaction: where one stands, and what an edit there does.
use Rattle.std.proofs.Common.{◌≡◌, ℕ, zero, suc, ◌+◌, ◌≤◌, ◌<◌, List, [], ◌∷◌, ◌++◌, append-nil, append_assoc, length, get_or, Bool, true, false, cond, not, ◌||◌, eqb, ltb, leb, Some, None, Result, Ok, Err, IfOk, IfErr, refl, sym, ap, subst, ◌∙◌, inl, inr, arith}
use Rattle.std.specs.Prelude.{filter, fold, slice_index}
use Rattle.std.specs.List.{AllByRecursion}
use Rattle.lt_ranges.specs.Numbers.{with_number, ascending}
use Rattle.std.specs.List.Sorted.{IsStrictlyIncreasing, IsSearchInRange, IsBinarySearchResult, IsNonDecreasingBy, IsPartitionPoint}
use Rattle.std.specs.Ordering.{nat_cmp, ordering_index}
use Rattle.std.proofs.lemmas.Cmp.{ranked}
use Rattle.std.proofs.lemmas.Bool.{cases_lt, eq-eqb, ne_eqb, eqb-false, ltb-true, ltb-false, leb-true, leb-false}
use Rattle.std.proofs.lemmas.Bool.Decides.{nat_tests}
use Rattle.lt_seq.proofs.NumbersLaws.{AllAbove, Rises, increasing_from}
use Rattle.lt_requests.specs.declared.wish.Wish.{Wish}
use Rattle.lt_requests.specs.Registered.{txns_of, Ascend, is_registered, wish_of, next_above, without, with_wish, IsFoundAt, IsGapAt, IsNextAt}

-- Numbers that rise.

pub above_on : (x y : ℕ) (ys : List ℕ) → x < y → AllAbove y ys → AllAbove x ys
above_on x y [] h all = tt
above_on x y (z ∷ zs) h all = (omega (arith, h, all.0), above_on x y zs h all.1)

rest_increases : (x : ℕ) (xs : List ℕ) → IsStrictlyIncreasing (x ∷ xs) → IsStrictlyIncreasing xs
rest_increases x xs h k within =
    let e : suc (k + 1) ≡ suc k + 1 = omega arith in
    subst (λ j. slice_index xs k < slice_index (x ∷ xs) j) (sym e) (h (suc k) (omega arith))

pub rises_from : (xs : List ℕ) → IsStrictlyIncreasing xs → Rises xs
rises_from [] h = tt
rises_from (x ∷ []) h = (tt, tt)
rises_from (x ∷ y ∷ ys) h =
    let rest = rises_from (y ∷ ys) (rest_increases x (y ∷ ys) h) in
    let less : x < y = h 0 (omega arith) in
    ((less, above_on x y ys less rest.0), rest)

above_at : (n : ℕ) (ws : List Wish) (k : ℕ) (d : Wish) → AllAbove n (txns_of ws) → k < length ws → n < (get_or ws k d).txn
above_at n [] k d all below = absurd (omega arith)
above_at n (w ∷ ws) zero d all below = all.0
above_at n (w ∷ ws) (suc k) d all below = above_at n ws k d all.1 (omega arith)

lt-ltb : (a b : ℕ) → a < b → ltb a b ≡ true
lt-ltb a b h = grind (arith, nat_tests)

not_ltb : (a b : ℕ) → b ≤ a → ltb a b ≡ false
not_ltb a b h = grind (arith, nat_tests)

-- Look-ups.

-- all are above the number
record Above (txn : ℕ) (ws : List Wish) : Type 0 where
  none : wish_of txn ws ≡ None
  absent : is_registered txn ws ≡ false
  left : without txn ws ≡ ws

skips_wish : (txn : ℕ) (w : Wish) (ws : List Wish) → eqb w.txn txn ≡ false → wish_of txn (w ∷ ws) ≡ wish_of txn ws
skips_wish txn w ws e = ap (λ b. cond b (Some w) (wish_of txn ws)) e

skips_number : (txn : ℕ) (w : Wish) (ws : List Wish) → eqb w.txn txn ≡ false → is_registered txn (w ∷ ws) ≡ is_registered txn ws
skips_number txn w ws e = ap (λ b. b || is_registered txn ws) e

keeps_wish : (txn : ℕ) (w : Wish) (ws : List Wish) → eqb w.txn txn ≡ false → without txn (w ∷ ws) ≡ w ∷ without txn ws
keeps_wish txn w ws e = ap (λ b. cond (not b) (w ∷ without txn ws) (without txn ws)) e

above_none : (txn : ℕ) (ws : List Wish) → AllAbove txn (txns_of ws) → Above txn ws
above_none txn [] all = record { none = refl; absent = refl; left = refl }
above_none txn (w ∷ ws) all =
    let e : eqb w.txn txn ≡ false = ne_eqb w.txn txn (λ same. omega (arith, all.0)) in
    let rest = above_none txn ws all.1 in
    record {
      none = skips_wish txn w ws e ∙ rest.none;
      absent = skips_number txn w ws e ∙ rest.absent;
      left = keeps_wish txn w ws e ∙ ap (λ l. w ∷ l) rest.left;
    }

pub found_at : (ws : List Wish) (txn at : ℕ) → Rises (txns_of ws) → at < length ws → ((d : Wish) → (get_or ws at d).txn ≡ txn) → IsFoundAt ws txn at
found_at [] txn at rises below is = absurd (omega arith)
found_at (w ∷ ws) txn zero rises below is =
    let same : w.txn ≡ txn = is w in
    let e : eqb w.txn txn ≡ true = eq-eqb w.txn txn same in
    let rest = above_none txn ws (subst (λ n. AllAbove n (txns_of ws)) same rises.0) in
    record {
      inside = below;
      wish = λ d. ap (λ b. cond b (Some w) (wish_of txn ws)) e;
      there = ap (λ b. b || is_registered txn ws) e;
      left = ap (λ b. cond (not b) (w ∷ without txn ws) (without txn ws)) e ∙ rest.left;
    }
found_at (w ∷ ws) txn (suc k) rises below is =
    let less : w.txn < txn = subst (λ n. w.txn < n) (is w) (above_at w.txn ws k w rises.0 (omega arith)) in
    let e : eqb w.txn txn ≡ false = ne_eqb w.txn txn (λ same. omega (arith, less)) in
    let rest = found_at ws txn k rises.1 (omega arith) is in
    record {
      inside = below;
      wish = λ d. skips_wish txn w ws e ∙ rest.wish d;
      there = skips_number txn w ws e ∙ rest.there;
      left = keeps_wish txn w ws e ∙ ap (λ l. w ∷ l) rest.left;
    }

pub gap_at : (ws : List Wish) (txn at : ℕ) → Rises (txns_of ws) → at ≤ length ws → ((k : ℕ) (d : Wish) → k < at → (get_or ws k d).txn < txn) → ((k : ℕ) (d : Wish) → at ≤ k → k < length ws → txn < (get_or ws k d).txn) → IsGapAt ws txn at
gap_at [] txn zero rises within before behind = record { inside = within; none = refl; absent = refl; left = refl; put = λ wish same. refl }
gap_at [] txn (suc k) rises within before behind = absurd (omega arith)
gap_at (w ∷ ws) txn zero rises within before behind =
    let less : txn < w.txn = behind 0 w (omega arith) (omega arith) in
    let all = above_none txn (w ∷ ws) (less, above_on txn w.txn (txns_of ws) less rises.0) in
    record {
      inside = within;
      none = all.none;
      absent = all.absent;
      left = all.left;
      put = λ wish same. (let first : wish.txn < w.txn = subst (λ n. n < w.txn) (sym same) less in ap (λ b. cond b (wish ∷ w ∷ ws) (w ∷ with_wish wish ws)) (lt-ltb wish.txn w.txn first));
    }
gap_at (w ∷ ws) txn (suc k) rises within before behind =
    let less : w.txn < txn = before 0 w (omega arith) in
    let e : eqb w.txn txn ≡ false = ne_eqb w.txn txn (λ same. omega (arith, less)) in
    let rest = gap_at ws txn k rises.1 (omega arith) (λ j d lt. before (suc j) d (omega arith)) (λ j d le lt. behind (suc j) d (omega arith) (omega arith)) in
    record {
      inside = within;
      none = skips_wish txn w ws e ∙ rest.none;
      absent = skips_number txn w ws e ∙ rest.absent;
      left = keeps_wish txn w ws e ∙ ap (λ l. w ∷ l) rest.left;
      put = λ wish same. (let later : w.txn < wish.txn = subst (λ n. w.txn < n) (sym same) less in ap (λ b. cond b (wish ∷ w ∷ ws) (w ∷ with_wish wish ws)) (not_ltb wish.txn w.txn (omega (arith, later))) ∙ ap (λ l. w ∷ l) (rest.put wish same));
    }

-- What a binary search finds.

increases_at : (ws : List Wish) → Rises (txns_of ws) → (i j : ℕ) (d : Wish) → i < j → j < length ws → (get_or ws i d).txn < (get_or ws j d).txn
increases_at [] rises i j d less below = absurd (omega arith)
increases_at (w ∷ ws) rises i zero d less below = absurd (omega arith)
increases_at (w ∷ ws) rises zero (suc j) d less below = above_at w.txn ws j d rises.0 (omega arith)
increases_at (w ∷ ws) rises (suc i) (suc j) d less below = increases_at ws rises.1 i j d (omega arith) (omega arith)

rank_rises : (a b txn : ℕ) → a ≤ b → ordering_index (nat_cmp a txn) ≤ ordering_index (nat_cmp b txn)
rank_rises a b txn le = grind (arith, nat_tests)

comparisons_rise : (ws : List Wish) (txn : ℕ) → Rises (txns_of ws) → IsNonDecreasingBy (λ w. ordering_index (nat_cmp w.txn txn)) ws
comparisons_rise ws txn rises i j d le below =
    rank_rises (get_or ws i d).txn (get_or ws j d).txn txn (elim (cases_lt i j) [
      | inl less ↦ (let h : (get_or ws i d).txn < (get_or ws j d).txn = increases_at ws rises i j d less below in omega (arith, h))
      | inr more ↦ (let same : i ≡ j = omega (arith, le, more) in subst (λ k. (get_or ws i d).txn ≤ (get_or ws k d).txn) same (omega arith))
    ])

pub record Searched (ws : List Wish) (txn : ℕ) (r : Result ℕ ℕ) : Type 0 where
  pub found : IfOk r (IsFoundAt ws txn)
  pub absent : IfErr r (IsGapAt ws txn)

pub searched : (ws : List Wish) (txn : ℕ) → Ascend ws → (r : Result ℕ ℕ) → IsSearchInRange r (length ws) → IsBinarySearchResult (λ w. nat_cmp w.txn txn) ws r → Searched ws txn r
searched ws txn ascend (Ok at) inside equal =
    record { found = found_at ws txn at (rises_from (txns_of ws) ascend) inside (λ d. ranked _ txn _ (sym (equal d))); absent = tt }
searched ws txn ascend (Err at) inside parted =
    let rises = rises_from (txns_of ws) ascend in
    let point = parted (comparisons_rise ws txn rises) in
    record {
      found = tt;
      absent = gap_at ws txn at rises inside (λ k d lt. ranked _ txn _ (sym (point.0 k d (omega arith) lt))) (λ k d le lt. ranked _ txn _ (sym (point.1 k d le lt)));
    }

-- The next above a number.

pub next_at : (ws : List Wish) (txn at : ℕ) → ((k : ℕ) (d : Wish) → k < at → leb (get_or ws k d).txn txn ≡ true) → at < length ws → ((d : Wish) → leb (get_or ws at d).txn txn ≡ false) → (d : Wish) → next_above txn ws ≡ Some (get_or ws at d).txn
next_at [] txn at before below here d = absurd (omega arith)
next_at (w ∷ ws) txn zero before below here d =
    let more : txn < w.txn = leb-false w.txn txn (here d) in ap (λ b. cond b (Some w.txn) (next_above txn ws)) (lt-ltb txn w.txn more)
next_at (w ∷ ws) txn (suc k) before below here d =
    let less : w.txn ≤ txn = leb-true w.txn txn (before 0 w (omega arith)) in
    ap (λ b. cond b (Some w.txn) (next_above txn ws)) (not_ltb txn w.txn less) ∙ next_at ws txn k (λ j e lt. before (suc j) e (omega arith)) (omega arith) here d

pub none_above : (ws : List Wish) (txn : ℕ) → ((k : ℕ) (d : Wish) → k < length ws → leb (get_or ws k d).txn txn ≡ true) → next_above txn ws ≡ None
none_above [] txn before = refl
none_above (w ∷ ws) txn before =
    let less : w.txn ≤ txn = leb-true w.txn txn (before 0 w (omega arith)) in
    ap (λ b. cond b (Some w.txn) (next_above txn ws)) (not_ltb txn w.txn less) ∙ none_above ws txn (λ j e lt. before (suc j) e (omega arith))

-- What an edit keeps.

above-filter : (n : ℕ) (test : Wish → Bool) (ws : List Wish) → AllAbove n (txns_of ws) → AllAbove n (txns_of (filter test ws))
above-filter n test [] all = tt
above-filter n test (w ∷ ws) all = by_test (test w) (above-filter n test ws all.1)
  where
    by_test : (b : Bool) → AllAbove n (txns_of (filter test ws)) → AllAbove n (txns_of (cond b (w ∷ filter test ws) (filter test ws)))
    by_test true rest = (all.0, rest)
    by_test false rest = rest

pub rises-filter : (test : Wish → Bool) (ws : List Wish) → Rises (txns_of ws) → Rises (txns_of (filter test ws))
rises-filter test [] rises = tt
rises-filter test (w ∷ ws) rises = by_test (test w) (rises-filter test ws rises.1)
  where
    by_test : (b : Bool) → Rises (txns_of (filter test ws)) → Rises (txns_of (cond b (w ∷ filter test ws) (filter test ws)))
    by_test true rest = (above-filter w.txn test ws rises.0, rest)
    by_test false rest = rest

pub ascend-without : (txn : ℕ) (ws : List Wish) → Ascend ws → Ascend (without txn ws)
ascend-without txn ws ascend = increasing_from (txns_of (without txn ws)) (rises-filter (λ w. not (eqb w.txn txn)) ws (rises_from (txns_of ws) ascend))

above-with_wish : (n : ℕ) (wish : Wish) (ws : List Wish) → n < wish.txn → AllAbove n (txns_of ws) → AllAbove n (txns_of (with_wish wish ws))
above-with_wish n wish [] less all = (less, tt)
above-with_wish n wish (w ∷ ws) less all = by_test (ltb wish.txn w.txn) (above-with_wish n wish ws less all.1)
  where
    by_test : (b : Bool) → AllAbove n (txns_of (with_wish wish ws)) → AllAbove n (txns_of (cond b (wish ∷ w ∷ ws) (w ∷ with_wish wish ws)))
    by_test true rest = (less, all)
    by_test false rest = (all.0, rest)

apart_from : (txn : ℕ) (w : Wish) (ws : List Wish) → is_registered txn (w ∷ ws) ≡ false → (eqb w.txn txn ≡ false) × (is_registered txn ws ≡ false)
apart_from txn w ws = by_test (eqb w.txn txn)
  where
    by_test : (b : Bool) → (b || is_registered txn ws) ≡ false → (b ≡ false) × (is_registered txn ws ≡ false)
    by_test true h = absurd (let no : true ≡ false → ⊥ = λ e. cc in no h)
    by_test false h = (refl, h)

rises-with_wish : (wish : Wish) (ws : List Wish) → is_registered wish.txn ws ≡ false → Rises (txns_of ws) → Rises (txns_of (with_wish wish ws))
rises-with_wish wish [] absent rises = (tt, tt)
rises-with_wish wish (w ∷ ws) absent rises = by_test (ltb wish.txn w.txn) refl (rises-with_wish wish ws (apart_from wish.txn w ws absent).1 rises.1)
  where
    by_test : (b : Bool) → ltb wish.txn w.txn ≡ b → Rises (txns_of (with_wish wish ws)) → Rises (txns_of (cond b (wish ∷ w ∷ ws) (w ∷ with_wish wish ws)))
    by_test true e rest = (let less : wish.txn < w.txn = ltb-true wish.txn w.txn e in ((less, above_on wish.txn w.txn (txns_of ws) less rises.0), rises))
    by_test false e rest =
        let le : w.txn ≤ wish.txn = ltb-false wish.txn w.txn e in
        let ne : w.txn ≡ wish.txn → ⊥ = eqb-false w.txn wish.txn (apart_from wish.txn w ws absent).0 in
        (above-with_wish w.txn wish ws (omega (arith, le, ne)) rises.0, rest)

pub ascend-with_wish : (wish : Wish) (ws : List Wish) → is_registered wish.txn ws ≡ false → Ascend ws → Ascend (with_wish wish ws)
ascend-with_wish wish ws absent ascend = increasing_from (txns_of (with_wish wish ws)) (rises-with_wish wish ws absent (rises_from (txns_of ws) ascend))

pub next_from : (ws : List Wish) (txn at : ℕ) → IsPartitionPoint (λ w. leb w.txn txn ≡ true) (λ w. leb w.txn txn ≡ false) ws at → IsNextAt ws txn at
next_from ws txn at point = record {
  there = λ below d. next_at ws txn at (λ k e lt. point.0 k e (omega arith) lt) below (λ e. point.1 at e (omega arith) below) d;
  none = λ all. none_above ws txn (λ k e lt. point.0 k e (omega arith) (omega (arith, lt, all)));
}

pub not_decreasing : (ws : List Wish) → Ascend ws → IsNonDecreasingBy (λ w. w.txn) ws
not_decreasing ws ascend i j d le below = elim (cases_lt i j) [
  | inl less ↦ (let h : (get_or ws i d).txn < (get_or ws j d).txn = increases_at ws (rises_from (txns_of ws) ascend) i j d less below in omega (arith, h))
  | inr more ↦ (let same : i ≡ j = omega (arith, le, more) in subst (λ k. (get_or ws i d).txn ≤ (get_or ws k d).txn) same (omega arith))
]

-- Numbers that rise are their own ascending list.

with_last : (n : ℕ) (xs : List ℕ) → AllByRecursion (λ x. x < n) xs → with_number n xs ≡ xs ++ n ∷ []
with_last n [] all = refl
with_last n (x ∷ xs) all =
    ap (λ b. cond b (n ∷ x ∷ xs) (cond (eqb n x) (x ∷ xs) (x ∷ with_number n xs))) (not_ltb n x (omega (arith, all.0)))
    ∙ ap (λ b. cond b (x ∷ xs) (x ∷ with_number n xs)) (ne_eqb n x (λ same. omega (arith, all.0, same)))
    ∙ ap (λ l. x ∷ l) (with_last n xs all.1)

all_last : (n : ℕ) (xs : List ℕ) (x : ℕ) → AllByRecursion (λ y. y < n) xs → x < n → AllByRecursion (λ y. y < n) (xs ++ x ∷ [])
all_last n [] x all less = (less, tt)
all_last n (y ∷ ys) x all less = (all.0, all_last n ys x all.1 less)

-- each of the list is below each of the others
abbrev AllBelow : List ℕ → List ℕ → Type 0
AllBelow acc [] = Unit {0}
AllBelow acc (x ∷ xs) = AllByRecursion (λ y. y < x) acc × AllBelow acc xs

below_last : (acc : List ℕ) (x : ℕ) (xs : List ℕ) → AllBelow acc xs → AllAbove x xs → AllBelow (acc ++ x ∷ []) xs
below_last acc x [] all above = tt
below_last acc x (y ∷ ys) all above = (all_last y acc x all.0 above.0, below_last acc x ys all.1 above.1)

fold_ascends : (acc xs : List ℕ) → AllBelow acc xs → Rises xs → fold (λ list n. with_number n list) acc xs ≡ acc ++ xs
fold_ascends acc [] all rises = sym (append-nil acc)
fold_ascends acc (x ∷ xs) all rises =
    ap (λ l. fold (λ list n. with_number n list) l xs) (with_last x acc all.0)
    ∙ fold_ascends (acc ++ x ∷ []) xs (below_last acc x xs all.1 rises.0) rises.1
    ∙ append_assoc acc (x ∷ []) xs

none_below : (xs : List ℕ) → AllBelow [] xs
none_below [] = tt
none_below (x ∷ xs) = (tt, none_below xs)

pub registered_ascend : (ws : List Wish) → Ascend ws → ascending (txns_of ws) ≡ txns_of ws
registered_ascend ws ascend = fold_ascends [] (txns_of ws) (none_below (txns_of ws)) (rises_from (txns_of ws) ascend)

-- A wish that was put in is found.

pub wish_put : (wish : Wish) (ws : List Wish) → is_registered wish.txn ws ≡ false → wish_of wish.txn (with_wish wish ws) ≡ Some wish
wish_put wish [] absent = ap (λ b. cond b (Some wish) None) (eq-eqb wish.txn wish.txn refl)
wish_put wish (w ∷ ws) absent =
    let parts = apart_from wish.txn w ws absent in by_test (ltb wish.txn w.txn) parts.0 (wish_put wish ws parts.1)
  where
    by_test : (b : Bool) → eqb w.txn wish.txn ≡ false → wish_of wish.txn (with_wish wish ws) ≡ Some wish → wish_of wish.txn (cond b (wish ∷ w ∷ ws) (w ∷ with_wish wish ws)) ≡ Some wish
    by_test true other rest = ap (λ b. cond b (Some wish) (wish_of wish.txn (w ∷ ws))) (eq-eqb wish.txn wish.txn refl)
    by_test false other rest = ap (λ b. cond b (Some w) (wish_of wish.txn (with_wish wish ws))) other ∙ rest
