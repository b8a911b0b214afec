-- Where a number is in a list.
use Rattle.std.proofs.Common.{◌≡◌, ℕ, suc, ◌+◌, ◌<◌, List, [], ◌∷◌, drop, Bool, true, false, ◌==◌, ◌||◌, nat_lt, if◌then◌else◌, map, length, get_or, refl, sym, ap, ◌∙◌, cond, arith}
use Rattle.std.specs.Ordering.{nat_cmp, match_ordering}
use Rattle.std.specs.declared.cmp.Ordering.TheVariants.{Less, Equal, Greater}
use Rattle.std.specs.List.{fold}
use Rattle.std.specs.BTreeSet.{insert_key}
use Rattle.std.proofs.lemmas.Bool.Decides.{nat_tests}
use Rattle.std.proofs.lemmas.List.{at_drop_more}
use Rattle.lt_ranges.specs.Numbers.{is_in, with_number}
use Rattle.lt_trace.specs.declared.line.Line.{Line}

-- an ordered set of numbers takes one more as an ascending list does
pub key_is_number : (n : ℕ) (ns : List ℕ) → insert_key nat_cmp ns n ≡ with_number n ns
key_is_number n [] = refl
key_is_number n (m ∷ ms) = by_tests (nat_lt n m) (n == m) (key_is_number n ms)
  where
    by_tests : (a b : Bool) → insert_key nat_cmp ms n ≡ with_number n ms →
        match_ordering (cond a Less (cond b Equal Greater)) (n ∷ m ∷ ms) (m ∷ ms) (m ∷ insert_key nat_cmp ms n) ≡ (if a then n ∷ m ∷ ms else if b then m ∷ ms else m ∷ with_number n ms)
    by_tests true b rest = refl
    by_tests false true rest = refl
    by_tests false false rest = ap (λ l. m ∷ l) rest

-- one more line's number
pub numbers_onward : (lines : List Line) (i : ℕ) (line : Line) (old new whole : List ℕ) → i < length lines → line ≡ get_or lines i line → new ≡ insert_key nat_cmp old line.txn →
    fold (λ list n. with_number n list) old (map (λ l. l.txn) (drop i lines)) ≡ whole → fold (λ list n. with_number n list) new (map (λ l. l.txn) (drop (i + 1) lines)) ≡ whole
numbers_onward lines i line old new whole inside is made goes =
    let rest = map (λ (l : Line). l.txn) (drop (i + 1) lines) in
    let f = λ (list : List ℕ) (n : ℕ). with_number n list in
    ap (λ list. fold f list rest) (made ∙ key_is_number line.txn old ∙ ap (λ (l : Line). with_number l.txn old) is)
    ∙ sym (at_drop_more (λ ls. fold f old (map (λ (l : Line). l.txn) ls)) lines i line inside) ∙ goes

-- a number of a list has a place in it
pub is_in_at : (n : ℕ) (ns : List ℕ) → is_in n ns ≡ true → (i : ℕ) × (i < length ns) × (get_or ns i 0 ≡ n)
is_in_at n [] e = cc
is_in_at n (m ∷ ms) e = by_test (m == n) refl e (is_in_at n ms)
  where
    by_test : (b : Bool) → (m == n) ≡ b → (b || is_in n ms) ≡ true → (is_in n ms ≡ true → (i : ℕ) × (i < length ms) × (get_or ms i 0 ≡ n)) → (i : ℕ) × (i < suc (length ms)) × (get_or (m ∷ ms) i 0 ≡ n)
    by_test true here e later = (0, omega arith, grind (arith, nat_tests))
    by_test false here e later = let l = later e in (suc l.0, omega (arith, l.1), l.2)
