-- How the bytes and the ends of keys compare, by the comparisons that the code makes.
use Rattle.std.proofs.Common.{◌≡◌, ℕ, List, [], ◌∷◌, ◌++◌, map, Some, None, Bool, cond, ◌&&◌, nat_eq, refl, sym, ap, ◌∙◌}
use Rattle.std.specs.declared.cmp.Ordering.{Ordering}
use Rattle.std.specs.declared.cmp.Ordering.TheVariants.{Less, Equal, Greater}
use Rattle.std.specs.Ordering.{nat_cmp, is_eq, ordering_reverse, ordering_then}
use Rattle.std.specs.Cmp.{unsigned_ties, nat_eq_equiv, nat_cmp_total}
use Rattle.std.specs.Cmp.Lexicographic.{pointwise, slice_cmp}
use Rattle.std.specs.List.{starts_with}
use Rattle.lt_ranges.specs.Key.{symbol_cmp}
use Rattle.lt_ranges.specs.declared.key.Key.TheVariants.{Bytes, After}
use Rattle.lt_ranges.specs.KeyOrder.{key_total}

-- numbers are equal where they tie, either way round
equal_back : (x y : ℕ) → nat_eq y x ≡ is_eq (nat_cmp x y)
equal_back x y = nat_eq_equiv.symm y x ∙ unsigned_ties x y

before_end_step : (o : Ordering) (front : Bool) (rest : Ordering) → ordering_then o (cond front Less rest) ≡ cond (is_eq o && front) Less (ordering_then o rest)
before_end_step Less front rest = refl
before_end_step Equal front rest = refl
before_end_step Greater front rest = refl

-- bytes that begin with ys lie before their end, and others go as they do to ys
pub before_end : (xs ys : List ℕ) → slice_cmp symbol_cmp (map Some xs) (map Some ys ++ None ∷ []) ≡ cond (starts_with nat_eq xs ys) Less (slice_cmp nat_cmp xs ys)
before_end [] [] = refl
before_end [] (y ∷ ys) = refl
before_end (x ∷ xs) [] = refl
before_end (x ∷ xs) (y ∷ ys) =
    ap (ordering_then (nat_cmp x y)) (before_end xs ys)
    ∙ before_end_step (nat_cmp x y) (starts_with nat_eq xs ys) (slice_cmp nat_cmp xs ys)
    ∙ ap (λ e. cond (e && starts_with nat_eq xs ys) Less (ordering_then (nat_cmp x y) (slice_cmp nat_cmp xs ys))) (sym (equal_back x y))

ends_step : (o : Ordering) (same front : Bool) (back : Ordering) →
    ordering_then o (cond same Equal (cond front Less (ordering_reverse back)))
    ≡ cond (is_eq o && same) Equal (cond (is_eq o && front) Less (ordering_reverse (ordering_then (ordering_reverse o) back)))
ends_step Less same front back = refl
ends_step Equal same front back = refl
ends_step Greater same front back = refl

-- of two ends the one of the longer front comes first
pub ends : (xs ys : List ℕ) →
    slice_cmp symbol_cmp (map Some xs ++ None ∷ []) (map Some ys ++ None ∷ [])
    ≡ cond (pointwise nat_eq xs ys) Equal (cond (starts_with nat_eq xs ys) Less (ordering_reverse (slice_cmp symbol_cmp (map Some ys) (map Some xs ++ None ∷ []))))
ends [] [] = refl
ends [] (y ∷ ys) = refl
ends (x ∷ xs) [] = refl
ends (x ∷ xs) (y ∷ ys) =
    let same = pointwise nat_eq xs ys in
    let front = starts_with nat_eq xs ys in
    let back = slice_cmp symbol_cmp (map Some ys) (map Some xs ++ None ∷ []) in
    ap (ordering_then (nat_cmp x y)) (ends xs ys)
    ∙ ends_step (nat_cmp x y) same front back
    ∙ (λ i. cond (sym (unsigned_ties x y) i && same) Equal (cond (sym (equal_back x y) i && front) Less (ordering_reverse (ordering_then (sym (nat_cmp_total.antisymm y x) i) back))))

-- an end and some bytes go as the bytes and the end, turned round
pub end_before : (xs ys : List ℕ) → slice_cmp symbol_cmp (map Some xs ++ None ∷ []) (map Some ys) ≡ ordering_reverse (slice_cmp symbol_cmp (map Some ys) (map Some xs ++ None ∷ []))
end_before xs ys = key_total.antisymm (After xs) (Bytes ys)
