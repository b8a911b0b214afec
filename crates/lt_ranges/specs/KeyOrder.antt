-- The order of keys is total, and keys that tie are equal.
use Rattle.std.specs.Prelude.{◌≡◌, ℕ, false, List, [], ◌∷◌, ◌++◌, map, Option, Some, None, nat_eq}
use Rattle.std.proofs.Common.{refl, ap, subst, ◌∙◌}
use Rattle.std.specs.declared.cmp.Ordering.{Ordering}
use Rattle.std.specs.declared.cmp.Ordering.TheVariants.{Less, Equal, Greater}
use Rattle.std.specs.Ordering.{nat_cmp, is_eq, eq_by_cmp, ordering_then, then_cmp, on}
use Rattle.std.specs.Cmp.{IsTotalOrder, nat_cmp_total, then_total, on_total, both_tied, unsigned_ties}
use Rattle.std.specs.Cmp.Lexicographic.{pointwise, slice_cmp, lists_total, texts_ties}
use Rattle.lt_ranges.specs.declared.key.Key.{Key}
use Rattle.lt_ranges.specs.declared.key.Key.TheVariants.{Below, Bytes, After, Above}
use Rattle.lt_ranges.specs.contracts.key.KeyPartialEq.TheImpl as derived
use Rattle.lt_ranges.specs.Key.{rank, symbols, symbol_cmp, key_cmp}

-- symbols as pairs of a class and a number
is_end : Option ℕ → ℕ
is_end None = 1
is_end (Some byte) = 0

number_of : Option ℕ → ℕ
number_of None = 0
number_of (Some byte) = byte

by_class : (a b : Option ℕ) → then_cmp (on is_end nat_cmp) (on number_of nat_cmp) a b ≡ symbol_cmp a b
unfolding is_end number_of
by_class None None = refl
by_class None (Some b) = refl
by_class (Some a) None = refl
by_class (Some a) (Some b) = refl

pub symbols_total : IsTotalOrder symbol_cmp
symbols_total = subst IsTotalOrder (λ i a b. by_class a b i) (then_total (on_total is_end nat_cmp_total) (on_total number_of nat_cmp_total))

pub key_total : IsTotalOrder key_cmp
key_total = then_total (on_total rank nat_cmp_total) (on_total symbols (lists_total symbols_total))

-- lists of symbols tie where their bytes are equal
pub bytes_cmp : (xs ys : List ℕ) → slice_cmp nat_cmp xs ys ≡ slice_cmp symbol_cmp (map Some xs) (map Some ys)
bytes_cmp [] [] = refl
bytes_cmp [] (y ∷ ys) = refl
bytes_cmp (x ∷ xs) [] = refl
bytes_cmp (x ∷ xs) (y ∷ ys) = ap (ordering_then (nat_cmp x y)) (bytes_cmp xs ys)

bytes_tie : (xs ys : List ℕ) → pointwise nat_eq xs ys ≡ is_eq (slice_cmp symbol_cmp (map Some xs) (map Some ys))
bytes_tie xs ys = texts_ties xs ys ∙ ap is_eq (bytes_cmp xs ys)

ends_tie : (xs ys : List ℕ) → pointwise nat_eq xs ys ≡ is_eq (slice_cmp symbol_cmp (map Some xs ++ None ∷ []) (map Some ys ++ None ∷ []))
ends_tie [] [] = refl
ends_tie [] (y ∷ ys) = refl
ends_tie (x ∷ xs) [] = refl
ends_tie (x ∷ xs) (y ∷ ys) = both_tied (nat_eq x y) (pointwise nat_eq xs ys) (nat_cmp x y) _ (unsigned_ties x y) (ends_tie xs ys)

-- bytes never tie with the end of the keys that begin with some bytes
differs : (o p : Ordering) → false ≡ is_eq p → false ≡ is_eq (ordering_then o p)
differs Less p e = refl
differs Equal p e = e
differs Greater p e = refl

pub bytes_differ : (xs ys : List ℕ) → false ≡ is_eq (slice_cmp symbol_cmp (map Some xs) (map Some ys ++ None ∷ []))
bytes_differ [] [] = refl
bytes_differ [] (y ∷ ys) = refl
bytes_differ (x ∷ xs) [] = refl
bytes_differ (x ∷ xs) (y ∷ ys) = differs (nat_cmp x y) _ (bytes_differ xs ys)

ends_differ : (xs ys : List ℕ) → false ≡ is_eq (slice_cmp symbol_cmp (map Some xs ++ None ∷ []) (map Some ys))
ends_differ [] [] = refl
ends_differ [] (y ∷ ys) = refl
ends_differ (x ∷ xs) [] = refl
ends_differ (x ∷ xs) (y ∷ ys) = differs (nat_cmp x y) _ (ends_differ xs ys)

-- `==` holds of the keys that the order doesn't tell apart
pub key_ties : (x y : Key) → derived.ghosts.eq x y ≡ eq_by_cmp key_cmp x y
key_ties Below Below = refl
key_ties Below (Bytes ys) = refl
key_ties Below (After ys) = refl
key_ties Below Above = refl
key_ties (Bytes xs) Below = refl
key_ties (Bytes xs) (Bytes ys) = bytes_tie xs ys
key_ties (Bytes xs) (After ys) = bytes_differ xs ys
key_ties (Bytes xs) Above = refl
key_ties (After xs) Below = refl
key_ties (After xs) (Bytes ys) = ends_differ xs ys
key_ties (After xs) (After ys) = ends_tie xs ys
key_ties (After xs) Above = refl
key_ties Above Below = refl
key_ties Above (Bytes ys) = refl
key_ties Above (After ys) = refl
key_ties Above Above = refl
