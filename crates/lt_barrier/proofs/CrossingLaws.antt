-- A join crosses no mark.
use Rattle.std.proofs.Common.{◌≡◌, ℕ, zero, suc, ◌<◌, List, [], ◌∷◌, length, get_or}
use Rattle.std.proofs.Common.{Bool, true, false, not, ◌&&◌, ◌||◌, ◌==◌, if◌then◌else◌, refl, sym, ap, ◌∙◌, arith}
use Rattle.std.specs.List.{list_any, Contains}
use Rattle.std.proofs.lemmas.Bool.Decides.{nat_tests}
use Rattle.lt_ranges.specs.declared.key.Key.{Key}
use Rattle.lt_ranges.specs.Key.{key_le}
use Rattle.lt_seq.specs.declared.event.Pair.{Pair}
use Rattle.lt_seq.specs.Pairs.{is_cut, are_joined, with_front, joined}
use Rattle.lt_barrier.specs.Crossings.{lies_over, CrossesNoMark}

-- two neighbours as one
abbrev one : Pair → Pair → Pair
one p q = record { owner = p.owner; range = record { left = p.range.left; right = q.range.right } }

-- whether a range is the owner's and lies on both sides of the mark
abbrev over : ℕ → Key → Pair → Bool
over owner mark p = p.owner == owner && not (key_le mark p.range.left) && key_le mark p.range.right

-- what no element passes, each of them fails
none_at : {X : Type 0} (test : X → Bool) (xs : List X) (x : X) (k : ℕ) → k < length xs → get_or xs k x ≡ x
    → list_any test xs ≡ false → test x ≡ false
none_at test [] x k within at none = absurd (omega (arith, within))
none_at test (y ∷ ys) x zero within at none = ap test (sym at) ∙ first (test y) (list_any test ys) none
  where
    first : (a b : Bool) → (a || b) ≡ false → a ≡ false
    first true b e = e
    first false b e = refl
none_at test (y ∷ ys) x (suc k) within at none = none_at test ys x k (omega (arith, within)) at (second (test y) (list_any test ys) none)
  where
    second : (a b : Bool) → (a || b) ≡ false → b ≡ false
    second true b e = cc
    second false b e = e

-- no mark lies between two that are joined
uncut : (marks : List Key) (mark : Key) (p q : Pair) → Contains marks mark → are_joined marks p q ≡ true
    → (not (key_le mark p.range.right) && key_le mark q.range.left) ≡ false
uncut marks mark p q among are =
    none_at (λ m. not (key_le m p.range.right) && key_le m q.range.left) marks mark among.0 among.1 among.2
    (by_test (p.owner == q.owner) (is_cut marks p q) are)
  where
    by_test : (a b : Bool) → (a && not b) ≡ true → b ≡ false
    by_test true true e = cc
    by_test true false e = refl
    by_test false b e = cc

same_owner : (marks : List Key) (p q : Pair) → are_joined marks p q ≡ true → p.owner ≡ q.owner
same_owner marks p q e = grind (arith, nat_tests)

-- so where the two as one lie on both sides of a mark, one of them does
over_one : (marks : List Key) (owner : ℕ) (mark : Key) (p q : Pair) → Contains marks mark → are_joined marks p q ≡ true
    → over owner mark (one p q) ≡ true → (over owner mark p || over owner mark q) ≡ true
over_one marks owner mark p q among are is =
    ap (λ o. over owner mark p || (o == owner && not (key_le mark q.range.left) && key_le mark q.range.right)) (sym (same_owner marks p q are))
    ∙ by_tests (p.owner == owner) (key_le mark p.range.left) (key_le mark p.range.right) (key_le mark q.range.left) (key_le mark q.range.right)
    (uncut marks mark p q among are) is
  where
    by_tests : (own a c d b : Bool) → (not c && d) ≡ false → (own && not a && b) ≡ true → ((own && not a && c) || (own && not d && b)) ≡ true
    by_tests own a c d b none all = grind arith

or_in : (a b c d : Bool) → (a || b) ≡ true → (a ≡ true → c ≡ true) → (b ≡ true → d ≡ true) → (c || d) ≡ true
or_in true b c d e f g = ap (λ x. x || d) (f refl)
or_in false b true d e f g = refl
or_in false b false d e f g = g e

or_assoc : (a b c : Bool) → (a || b) ≡ true → (a || (b || c)) ≡ true
or_assoc true b c e = refl
or_assoc false b c e = ap (λ x. x || c) e

or_right : (a b c : Bool) → c ≡ true → (a || (b || c)) ≡ true
or_right true b c e = refl
or_right false true c e = refl
or_right false false c e = e

over_if : (marks : List Key) (owner : ℕ) (mark : Key) (p q : Pair) (qs : List Pair) (b : Bool) → Contains marks mark → are_joined marks p q ≡ b
    → lies_over owner mark (if b then one p q ∷ qs else p ∷ q ∷ qs) ≡ true → lies_over owner mark (p ∷ q ∷ qs) ≡ true
over_if marks owner mark p q qs true among are is = by_first (over owner mark (one p q)) refl is
  where
    by_first : (a : Bool) → over owner mark (one p q) ≡ a → (a || lies_over owner mark qs) ≡ true → lies_over owner mark (p ∷ q ∷ qs) ≡ true
    by_first true e h = or_assoc (over owner mark p) (over owner mark q) (lies_over owner mark qs) (over_one marks owner mark p q among are e)
    by_first false e h = or_right (over owner mark p) (over owner mark q) (lies_over owner mark qs) h
over_if marks owner mark p q qs false among are is = is

over_front : (marks : List Key) (owner : ℕ) (mark : Key) (p : Pair) (qs : List Pair) → Contains marks mark
    → lies_over owner mark (with_front marks p qs) ≡ true → lies_over owner mark (p ∷ qs) ≡ true
over_front marks owner mark p [] among is = is
over_front marks owner mark p (q ∷ qs) among is = over_if marks owner mark p q qs (are_joined marks p q) among refl is

pub crosses_none : (marks : List Key) (pairs : List Pair) → CrossesNoMark marks pairs (joined marks pairs)
crosses_none marks [] owner mark among is = is
crosses_none marks (p ∷ ps) owner mark among is =
    or_in (over owner mark p) (lies_over owner mark (joined marks ps)) (over owner mark p) (lies_over owner mark ps)
    (over_front marks owner mark p (joined marks ps) among is) (λ e. e) (crosses_none marks ps owner mark among)
