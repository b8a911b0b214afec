-- Whom a search lists.
use Rattle.std.proofs.Common.{◌≡◌, ℕ, zero, suc, ◌+◌, ◌≤◌, ◌<◌, List, [], ◌∷◌, ◌++◌, length, get_or, take, Bool, true, false, cond, not, ◌||◌, ◌&&◌, eqb, ltb, Some, None, All, refl, sym, ap, subst, ◌∙◌, arith, append_assoc, append-nil, length-append}
use Rattle.std.specs.Prelude.{filter, option_to_list}
use Rattle.std.specs.List.{list_any, IsDistinct, AllByRecursion}
use Rattle.std.specs.List.Sorted.{IsStrictlyIncreasing}
use Rattle.std.specs.Cmp.{nat_eq_equiv}
use Rattle.std.proofs.lemmas.Bool.{eq-eqb, ne_eqb, eqb-true, eqb-false}
use Rattle.std.proofs.lemmas.List.{take_more, length-map}
use Rattle.std.proofs.lemmas.List.Elements.{filter_more, All-from_recursion}
use Rattle.std.proofs.lemmas.Map.Keys.{IsDistinct-cons}
use Rattle.std.proofs.lemmas.Map.Made.{length-le_from_is_member}
use Rattle.lt_ranges.specs.Numbers.{is_in}
use Rattle.lt_seq.proofs.NumbersLaws.{AllAbove, Rises, increasing_from}
use Rattle.lt_requests.specs.declared.wish.Wish.{Wish}
use Rattle.lt_requests.specs.Registered.{txns_of, Ascend, is_registered, wish_of, with_wish}
use Rattle.lt_requests.specs.Search.{wishes_of, new_wishes}
use Rattle.lt_requests.specs.Questions.{AreKept}
use Rattle.lt_requests.proofs.RegistryLaws.{rises_from, rises-filter, ascend-with_wish}

or_assoc : (a b c : Bool) → ((a || b) || c) ≡ (a || (b || c))
or_assoc true b c = refl
or_assoc false b c = refl

or_swap : (a b c : Bool) → (a || (b || c)) ≡ (b || (a || c))
or_swap true true c = refl
or_swap true false c = refl
or_swap false b c = refl

or_false : (a : Bool) → (a || false) ≡ a
or_false true = refl
or_false false = refl

pub registered-append : (txn : ℕ) (xs ys : List Wish) → is_registered txn (xs ++ ys) ≡ (is_registered txn xs || is_registered txn ys)
registered-append txn [] ys = refl
registered-append txn (x ∷ xs) ys = ap (λ b. eqb x.txn txn || b) (registered-append txn xs ys) ∙ sym (or_assoc (eqb x.txn txn) (is_registered txn xs) (is_registered txn ys))

pub registered-with_wish : (txn : ℕ) (wish : Wish) (ws : List Wish) → is_registered txn (with_wish wish ws) ≡ (eqb wish.txn txn || is_registered txn ws)
registered-with_wish txn wish [] = refl
registered-with_wish txn wish (w ∷ ws) = by_test (ltb wish.txn w.txn) (registered-with_wish txn wish ws)
  where
    by_test : (b : Bool) → is_registered txn (with_wish wish ws) ≡ (eqb wish.txn txn || is_registered txn ws) → is_registered txn (cond b (wish ∷ w ∷ ws) (w ∷ with_wish wish ws)) ≡ (eqb wish.txn txn || (eqb w.txn txn || is_registered txn ws))
    by_test true rest = refl
    by_test false rest = ap (λ b. eqb w.txn txn || b) rest ∙ or_swap (eqb w.txn txn) (eqb wish.txn txn) (is_registered txn ws)

length-with_wish : (wish : Wish) (ws : List Wish) → length (with_wish wish ws) ≡ length ws + 1
length-with_wish wish [] = refl
length-with_wish wish (w ∷ ws) = by_test (ltb wish.txn w.txn) (length-with_wish wish ws)
  where
    by_test : (b : Bool) → length (with_wish wish ws) ≡ length ws + 1 → length (cond b (wish ∷ w ∷ ws) (w ∷ with_wish wish ws)) ≡ length (w ∷ ws) + 1
    by_test true rest = omega arith
    by_test false rest = omega (arith, rest)

-- one more is listed
pub kept_more : (all listed asked : List Wish) (wish : Wish) → AreKept all listed asked → is_registered wish.txn all ≡ true → is_registered wish.txn asked ≡ false → AreKept all (listed ++ wish ∷ []) (with_wish wish asked)
kept_more all listed asked wish kept there absent = record {
  same = λ txn. registered-with_wish txn wish asked ∙ more txn (is_registered txn listed) (is_registered txn asked) (kept.same txn) ∙ sym (registered-append txn listed (wish ∷ []));
  count = omega (arith, length-with_wish wish asked, length-append listed (wish ∷ []), kept.count);
  among = λ txn h. is_among txn (eqb wish.txn txn) refl (sym (registered-with_wish txn wish asked) ∙ h);
  ascend = ascend-with_wish wish asked absent kept.ascend;
}
  where
    more : (txn : ℕ) (a b : Bool) → b ≡ a → (eqb wish.txn txn || b) ≡ (a || (eqb wish.txn txn || false))
    more txn a b same = ap (λ x. eqb wish.txn txn || x) same ∙ turned (eqb wish.txn txn) a
      where
        turned : (x y : Bool) → (x || y) ≡ (y || (x || false))
        turned true true = refl
        turned true false = refl
        turned false true = refl
        turned false false = refl

    is_among : (txn : ℕ) (b : Bool) → eqb wish.txn txn ≡ b → (b || is_registered txn asked) ≡ true → is_registered txn all ≡ true
    is_among txn true e h = subst (λ n. is_registered n all ≡ true) (eqb-true wish.txn txn e) there
    is_among txn false e h = kept.among txn h

-- What of those named is new.

skipped : (txn : ℕ) (listed : List Wish) (wish : Wish) (b : Bool) → (not (eqb wish.txn txn) && not (is_registered wish.txn listed)) ≡ b → new_wishes txn listed (wish ∷ []) ≡ cond b (wish ∷ []) []
skipped txn listed wish b e = ap (λ x. cond x (wish ∷ []) []) e

below_none : (n : ℕ) (ws : List Wish) → AllByRecursion (λ w. w.txn < n) ws → is_registered n ws ≡ false
below_none n [] all = refl
below_none n (w ∷ ws) all = ap (λ b. b || is_registered n ws) (ne_eqb w.txn n (λ same. omega (arith, all.0))) ∙ below_none n ws all.1

below_filter : (n : ℕ) (test : Wish → Bool) (ws : List Wish) → AllByRecursion (λ w. w.txn < n) ws → AllByRecursion (λ w. w.txn < n) (filter test ws)
below_filter n test [] all = tt
below_filter n test (w ∷ ws) all = by_test (test w) (below_filter n test ws all.1)
  where
    by_test : (b : Bool) → AllByRecursion (λ w. w.txn < n) (filter test ws) → AllByRecursion (λ w. w.txn < n) (cond b (w ∷ filter test ws) (filter test ws))
    by_test true rest = (all.0, rest)
    by_test false rest = rest

above_get : (n : ℕ) (ws : List Wish) (k : ℕ) (d : Wish) → AllAbove n (txns_of ws) → k < length ws → n < (get_or ws k d).txn
above_get n [] k d all below = absurd (omega arith)
above_get n (w ∷ ws) zero d all below = all.0
above_get n (w ∷ ws) (suc k) d all below = above_get n ws k d all.1 (omega arith)

-- those before one are below it
before_below : (ws : List Wish) (k : ℕ) (d : Wish) → Rises (txns_of ws) → k < length ws → AllByRecursion (λ w. w.txn < (get_or ws k d).txn) (take k ws)
before_below [] k d rises below = absurd (omega arith)
before_below (w ∷ ws) zero d rises below = tt
before_below (w ∷ ws) (suc k) d rises below = (above_get w.txn ws k d rises.0 (omega arith), before_below ws k d rises.1 (omega arith))

-- one more of those named is looked at
pub new_more : (txn : ℕ) (listed named : List Wish) (i : ℕ) (wish : Wish) → Ascend named → i < length named → wish ≡ get_or named i wish → (now : List Wish) → now ≡ listed ++ new_wishes txn listed (take i named) → now ++ new_wishes txn now (wish ∷ []) ≡ listed ++ new_wishes txn listed (take (i + 1) named)
new_more txn listed named i wish ascend below here now is =
    let before = new_wishes txn listed (take i named) in
    let test = λ (w : Wish). not (eqb w.txn txn) && not (is_registered w.txn listed) in
    let under : AllByRecursion (λ w. w.txn < wish.txn) (take i named) = subst (λ (v : Wish). AllByRecursion (λ w. w.txn < v.txn) (take i named)) (sym here) (before_below named i wish (rises_from (txns_of named) ascend) below) in
    let fresh : is_registered wish.txn before ≡ false = below_none wish.txn before (below_filter wish.txn test (take i named) under) in
    let same : is_registered wish.txn now ≡ is_registered wish.txn listed = ap (λ l. is_registered wish.txn l) is ∙ registered-append wish.txn listed before ∙ ap (λ b. is_registered wish.txn listed || b) fresh ∙ or_false (is_registered wish.txn listed) in
    ap (λ l. l ++ new_wishes txn now (wish ∷ [])) is
    ∙ append_assoc listed before (new_wishes txn now (wish ∷ []))
    ∙ ap (λ b. listed ++ (before ++ cond (not (eqb wish.txn txn) && not b) (wish ∷ []) [])) same
    ∙ ap (λ (v : Wish). listed ++ (before ++ cond (test v) (v ∷ []) [])) here
    ∙ ap (λ l. listed ++ l) (sym (filter_more test named i wish below))

-- it is the one that searches, or listed already
pub not_new : (txn : ℕ) (listed asked all : List Wish) (wish : Wish) → AreKept all listed asked → (eqb wish.txn txn || is_registered wish.txn asked) ≡ true → listed ≡ listed ++ new_wishes txn listed (wish ∷ [])
not_new txn listed asked all wish kept old = sym (ap (λ l. listed ++ l) (skipped txn listed wish false (by_test (eqb wish.txn txn) (is_registered wish.txn asked) (is_registered wish.txn listed) (kept.same wish.txn) old)) ∙ append-nil listed)
  where
    by_test : (a b c : Bool) → b ≡ c → (a || b) ≡ true → (not a && not c) ≡ false
    by_test true b c e h = refl
    by_test false b c e h = ap not (sym e ∙ h)

pub is_new : (txn : ℕ) (listed asked all : List Wish) (wish : Wish) → AreKept all listed asked → eqb wish.txn txn ≡ false → is_registered wish.txn asked ≡ false → listed ++ wish ∷ [] ≡ listed ++ new_wishes txn listed (wish ∷ [])
is_new txn listed asked all wish kept other fresh = sym (ap (λ l. listed ++ l) (skipped txn listed wish true (by_test (eqb wish.txn txn) (is_registered wish.txn asked) (is_registered wish.txn listed) (kept.same wish.txn) other fresh)))
  where
    by_test : (a b c : Bool) → b ≡ c → a ≡ false → b ≡ false → (not a && not c) ≡ true
    by_test a b c e h k = ap (λ x. not x && not c) h ∙ ap not (sym e ∙ k)

-- The wishes of owners that ascend, one owner after another.

is_in-append : (n : ℕ) (xs ys : List ℕ) → is_in n (xs ++ ys) ≡ (is_in n xs || is_in n ys)
is_in-append n [] ys = refl
is_in-append n (x ∷ xs) ys = ap (λ b. eqb x n || b) (is_in-append n xs ys) ∙ sym (or_assoc (eqb x n) (is_in n xs) (is_in n ys))

-- none of numbers below one is another above it
not_among : (n m : ℕ) (xs : List ℕ) → AllByRecursion (λ x. x < n) xs → n ≤ m → is_in m xs ≡ false
not_among n m [] all le = refl
not_among n m (x ∷ xs) all le = ap (λ b. b || is_in m xs) (ne_eqb x m (λ same. omega (arith, all.0, le))) ∙ not_among n m xs all.1 le

none_of_above : (n : ℕ) (xs : List ℕ) (ws : List Wish) → AllByRecursion (λ x. x < n) xs → AllAbove n (txns_of ws) → (wishes_of xs ws ≡ []) × (wishes_of (xs ++ n ∷ []) ws ≡ []) × (wish_of n ws ≡ None)
none_of_above n xs [] all above = (refl, refl, refl)
none_of_above n xs (w ∷ ws) all above =
    let rest = none_of_above n xs ws all above.1 in
    let other : eqb n w.txn ≡ false = ne_eqb n w.txn (λ same. omega (arith, above.0)) in
    let apart : eqb w.txn n ≡ false = ne_eqb w.txn n (λ same. omega (arith, above.0)) in
    let out : is_in w.txn xs ≡ false = not_among n w.txn xs all (omega (arith, above.0)) in
    let out_more : is_in w.txn (xs ++ n ∷ []) ≡ false = is_in-append w.txn xs (n ∷ []) ∙ ap (λ b. b || (eqb n w.txn || false)) out ∙ ap (λ b. b || false) other in (
      ap (λ b. cond b (w ∷ wishes_of xs ws) (wishes_of xs ws)) out ∙ rest.0,
      ap (λ b. cond b (w ∷ wishes_of (xs ++ n ∷ []) ws) (wishes_of (xs ++ n ∷ []) ws)) out_more ∙ rest.1,
      ap (λ b. cond b (Some w) (wish_of n ws)) apart ∙ rest.2,
    )

pub one_more : (n : ℕ) (xs : List ℕ) (ws : List Wish) → AllByRecursion (λ x. x < n) xs → Rises (txns_of ws) → wishes_of (xs ++ n ∷ []) ws ≡ wishes_of xs ws ++ option_to_list (wish_of n ws)
one_more n xs [] all rises = refl
one_more n xs (w ∷ ws) all rises = by_case (eqb w.txn n) refl (one_more n xs ws all rises.1)
  where
    by_test : (b : Bool) → wishes_of (xs ++ n ∷ []) ws ≡ wishes_of xs ws ++ option_to_list (wish_of n ws) → cond b (w ∷ wishes_of (xs ++ n ∷ []) ws) (wishes_of (xs ++ n ∷ []) ws) ≡ cond b (w ∷ wishes_of xs ws) (wishes_of xs ws) ++ option_to_list (wish_of n ws)
    by_test true rest = ap (λ l. w ∷ l) rest
    by_test false rest = rest

    by_case : (b : Bool) → eqb w.txn n ≡ b → wishes_of (xs ++ n ∷ []) ws ≡ wishes_of xs ws ++ option_to_list (wish_of n ws) → wishes_of (xs ++ n ∷ []) (w ∷ ws) ≡ wishes_of xs (w ∷ ws) ++ option_to_list (wish_of n (w ∷ ws))
    by_case true e rest =
        let same : w.txn ≡ n = eqb-true w.txn n e in
        let above = none_of_above n xs ws all (subst (λ m. AllAbove m (txns_of ws)) same rises.0) in
        let out : is_in w.txn xs ≡ false = not_among n w.txn xs all (omega (arith, same)) in
        let there : is_in w.txn (xs ++ n ∷ []) ≡ true = is_in-append w.txn xs (n ∷ []) ∙ ap (λ b. b || (eqb n w.txn || false)) out ∙ ap (λ b. b || false) (eq-eqb n w.txn (sym same)) in
        ap (λ b. cond b (w ∷ wishes_of (xs ++ n ∷ []) ws) (wishes_of (xs ++ n ∷ []) ws)) there
        ∙ ap (λ l. w ∷ l) above.1
        ∙ sym (ap (λ b. cond b (w ∷ wishes_of xs ws) (wishes_of xs ws) ++ option_to_list (wish_of n (w ∷ ws))) out
        ∙ ap (λ l. l ++ option_to_list (wish_of n (w ∷ ws))) above.0
        ∙ ap (λ b. option_to_list (cond b (Some w) (wish_of n ws))) e)
    by_case false e rest =
        let other : eqb n w.txn ≡ false = ne_eqb n w.txn (λ same. eqb-false w.txn n e (sym same)) in
        let in_same : is_in w.txn (xs ++ n ∷ []) ≡ is_in w.txn xs = is_in-append w.txn xs (n ∷ []) ∙ ap (λ b. is_in w.txn xs || (b || false)) other ∙ or_false (is_in w.txn xs) in
        ap (λ b. cond b (w ∷ wishes_of (xs ++ n ∷ []) ws) (wishes_of (xs ++ n ∷ []) ws)) in_same
        ∙ by_test (is_in w.txn xs) rest
        ∙ sym (ap (λ b. wishes_of xs (w ∷ ws) ++ option_to_list (cond b (Some w) (wish_of n ws))) e)

above_numbers : (n : ℕ) (ys : List ℕ) (k d : ℕ) → AllAbove n ys → k < length ys → n < get_or ys k d
above_numbers n [] k d all below = absurd (omega arith)
above_numbers n (y ∷ ys) zero d all below = all.0
above_numbers n (y ∷ ys) (suc k) d all below = above_numbers n ys k d all.1 (omega arith)

numbers_below : (xs : List ℕ) (k : ℕ) (d : ℕ) → Rises xs → k < length xs → AllByRecursion (λ x. x < get_or xs k d) (take k xs)
numbers_below [] k d rises below = absurd (omega arith)
numbers_below (x ∷ xs) zero d rises below = tt
numbers_below (x ∷ xs) (suc k) d rises below = (above_numbers x xs k d rises.0 (omega arith), numbers_below xs k d rises.1 (omega arith))

-- one owner more is looked up
pub named_more : (owners : List ℕ) (ws : List Wish) (i d : ℕ) → IsStrictlyIncreasing owners → Ascend ws → i < length owners → wishes_of (take (i + 1) owners) ws ≡ wishes_of (take i owners) ws ++ option_to_list (wish_of (get_or owners i d) ws)
named_more owners ws i d increase ascend below =
    ap (λ l. wishes_of l ws) (take_more owners i d below)
    ∙ one_more (get_or owners i d) (take i owners) ws (numbers_below owners i d (rises_from owners increase) below) (rises_from (txns_of ws) ascend)

pub ascend-wishes_of : (owners : List ℕ) (ws : List Wish) → Ascend ws → Ascend (wishes_of owners ws)
ascend-wishes_of owners ws ascend = increasing_from (txns_of (wishes_of owners ws)) (rises-filter (λ w. is_in w.txn owners) ws (rises_from (txns_of ws) ascend))

registered_all : (all ws : List Wish) → ((txn : ℕ) → is_registered txn ws ≡ true → is_registered txn all ≡ true) → (owners : List ℕ) → AllByRecursion (λ w. is_registered w.txn all ≡ true) (wishes_of owners ws)
registered_all all [] there owners = tt
registered_all all (w ∷ ws) there owners = by_test (is_in w.txn owners) (registered_all all ws (λ txn h. there txn (ap (λ b. eqb w.txn txn || b) h ∙ or_true (eqb w.txn txn))) owners)
  where
    or_true : (b : Bool) → (b || true) ≡ true
    or_true true = refl
    or_true false = refl

    by_test : (b : Bool) → AllByRecursion (λ v. is_registered v.txn all ≡ true) (wishes_of owners ws) → AllByRecursion (λ v. is_registered v.txn all ≡ true) (cond b (w ∷ wishes_of owners ws) (wishes_of owners ws))
    by_test true rest = (there w.txn (ap (λ b. b || is_registered w.txn ws) (eq-eqb w.txn w.txn refl)), rest)
    by_test false rest = rest

pub named_wait : (owners : List ℕ) (ws : List Wish) → All (λ w. is_registered w.txn ws ≡ true) (wishes_of owners ws)
named_wait owners ws = All-from_recursion (λ w. is_registered w.txn ws ≡ true) (wishes_of owners ws) (registered_all ws ws (λ txn h. h) owners)

-- No more are listed than wait.

is_in_member : (n : ℕ) (xs : List ℕ) → list_any (eqb n) xs ≡ is_in n xs
is_in_member n [] = refl
is_in_member n (x ∷ xs) = ap (λ b. b || list_any (eqb n) xs) (turned (eqb x n) refl) ∙ ap (λ b. eqb x n || b) (is_in_member n xs)
  where
    turned : (b : Bool) → eqb x n ≡ b → eqb n x ≡ eqb x n
    turned true e = eq-eqb n x (sym (eqb-true x n e)) ∙ sym e
    turned false e = ne_eqb n x (λ same. eqb-false x n e (sym same)) ∙ sym e

apart_above : (n : ℕ) (xs : List ℕ) → AllAbove n xs → AllByRecursion (λ y. eqb n y ≡ false) xs
apart_above n [] all = tt
apart_above n (x ∷ xs) all = (ne_eqb n x (λ same. omega (arith, all.0)), apart_above n xs all.1)

none_distinct : IsDistinct eqb []
unfolding IsDistinct
none_distinct = tt

rises_distinct : (xs : List ℕ) → Rises xs → IsDistinct eqb xs
rises_distinct [] rises = none_distinct
rises_distinct (x ∷ xs) rises = IsDistinct-cons eqb x xs (apart_above x xs rises.0) (rises_distinct xs rises.1)

pub listed_fewer : (all listed asked : List Wish) → AreKept all listed asked → length listed ≤ length all
listed_fewer all listed asked kept =
    let fewer : length (txns_of asked) ≤ length (txns_of all) = length-le_from_is_member nat_eq_equiv (txns_of asked) (txns_of all) (rises_distinct (txns_of asked) (rises_from (txns_of asked) kept.ascend))
    (λ n h. is_in_member n (txns_of all) ∙ kept.among n (sym (is_in_member n (txns_of asked)) ∙ h)) in
    omega (arith, fewer, kept.count, length-map asked (λ (w : Wish). w.txn), length-map all (λ (w : Wish). w.txn))

pub kept_none : (all listed asked : List Wish) → listed ≡ [] → asked ≡ [] → AreKept all listed asked
kept_none all listed asked none none_asked = record {
  same = λ txn. ap (is_registered txn) none_asked ∙ sym (ap (is_registered txn) none);
  count = ap length none_asked ∙ sym (ap length none);
  among = λ txn h. absurd (let no : false ≡ true → ⊥ = λ e. cc in no (sym (ap (is_registered txn) none_asked) ∙ h));
  ascend = subst Ascend (sym none_asked) (λ k within. absurd (omega arith));
}

pub named_nobody : (ws : List Wish) → wishes_of [] ws ≡ []
named_nobody [] = refl
named_nobody (w ∷ ws) = named_nobody ws
