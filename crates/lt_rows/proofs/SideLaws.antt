-- Words that pack a key lie where the key does.
use Rattle.std.proofs.Common.{◌≡◌, ℕ, ◌<◌, Bool, true, false, List, [], ◌∷◌, not, refl, sym, ap, ◌∙◌, subst, arith, ◌⊎◌, inl, inr}
use Rattle.std.specs.Prelude.{◌&&◌, slice_index}
use Rattle.std.proofs.lemmas.Bool.Decides.{nat_tests}
use Rattle.std.specs.declared.cmp.Ordering.{Ordering}
use Rattle.std.specs.declared.cmp.Ordering.TheVariants.{Less, Equal, Greater}
use Rattle.std.specs.Ordering.{nat_cmp, is_le, is_lt, is_gt, ordering_reverse, ordering_then}
use Rattle.std.specs.Cmp.Lexicographic.{slice_cmp}
use Rattle.lt_ranges.specs.declared.key.Key.{Key}
use Rattle.lt_ranges.specs.Key.{key_cmp, key_le}
use Rattle.lt_ranges.specs.Interval.{Interval, IsInterval, before, overlap}
use Rattle.lt_ranges.proofs.KeyLaws.{le_trans, le_total}
use Rattle.lt_ranges.specs.KeyOrder.{key_total}
use Rattle.lt_ranges.specs.Packing.{IsValid, packed, unpacked}
use Rattle.lt_ranges.proofs.PackingLaws.{packed_order, unpacked_again}
use Rattle.lt_rows.specs.Nodes.{key_of, or_below, upwards}
use Rattle.lt_rows.specs.Sides.{IsSideOf, at}
use Rattle.lt_rows.specs.declared.range_side.RangeSide.{RangeSide}
use Rattle.lt_rows.specs.declared.range_side.RangeSide.TheVariants.{Meets, Behind}
use Rattle.lt_rows.specs.Packing.{PacksKey}

-- the key that a key's words are read as
read_again : (words : List ℕ) (p : PacksKey words) → key_of words ≡ p.0
unfolding key_of
read_again words p = ap or_below (ap unpacked (sym p.2) ∙ unpacked_again p.0 p.1)

-- where the first numbers of two lists differ, they tell the order
pub first_less : (xs ys : List ℕ) → slice_index xs 0 < slice_index ys 0 → slice_cmp nat_cmp xs ys ≡ Less
first_less xs [] lt = absurd (omega arith)
first_less [] (y ∷ ys) lt = refl
first_less (x ∷ xs) (y ∷ ys) lt = ap (λ (o : Ordering). ordering_then o (slice_cmp nat_cmp xs ys)) (less x y lt)
  where
    less : (x y : ℕ) → x < y → nat_cmp x y ≡ Less
    less x y lt = grind (arith, nat_tests)

pub first_more : (xs ys : List ℕ) → slice_index ys 0 < slice_index xs 0 → slice_cmp nat_cmp xs ys ≡ Greater
first_more [] ys lt = absurd (omega arith)
first_more (x ∷ xs) [] lt = refl
first_more (x ∷ xs) (y ∷ ys) lt = ap (λ (o : Ordering). ordering_then o (slice_cmp nat_cmp xs ys)) (more x y lt)
  where
    more : (x y : ℕ) → y < x → nat_cmp x y ≡ Greater
    more x y lt = grind (arith, nat_tests)

-- The words of a key, and those of another.
module _ (words ws : List ℕ) (other : Key) (p : PacksKey words) (q : IsValid other × (ws ≡ packed other))
    (o : Ordering) (is : o ≡ slice_cmp nat_cmp words ws) where
  order_is : o ≡ key_cmp (key_of words) other
  order_is =
      is
      ∙ ((λ i. slice_cmp nat_cmp (sym p.2 i) (q.1 i))
      ∙ (packed_order p.0 other p.1 q.0
      ∙ ap (λ (key : Key). key_cmp key other) (sym (read_again words p))))

  back_is : ordering_reverse o ≡ key_cmp other (key_of words)
  back_is = ap ordering_reverse order_is ∙ sym (key_total.antisymm other (key_of words))

  no_less : (o : Ordering) → is_gt o ≡ true → is_le o ≡ false
  no_less Less e = sym e
  no_less Equal e = sym e
  no_less Greater e = refl

  pub after : is_gt o ≡ true → not (key_le (key_of words) other) ≡ true
  unfolding key_le
  after e = ap not (ap is_le (sym order_is) ∙ no_less o e)

  no_greater : (o : Ordering) → is_gt o ≡ false → is_le o ≡ true
  no_greater Less e = refl
  no_greater Equal e = refl
  no_greater Greater e = sym e

  pub not_after : is_gt o ≡ false → key_le (key_of words) other ≡ true
  unfolding key_le
  not_after e = ap is_le (sym order_is) ∙ no_greater o e

  turned_less : (o : Ordering) → is_lt o ≡ true → is_le (ordering_reverse o) ≡ false
  turned_less Less e = refl
  turned_less Equal e = sym e
  turned_less Greater e = sym e

  pub ahead : is_lt o ≡ true → not (key_le other (key_of words)) ≡ true
  unfolding key_le
  ahead e = ap not (ap is_le (sym back_is) ∙ turned_less o e)

  turned_more : (o : Ordering) → is_lt o ≡ false → is_le (ordering_reverse o) ≡ true
  turned_more Less e = sym e
  turned_more Equal e = refl
  turned_more Greater e = refl

  pub not_ahead : is_lt o ≡ false → key_le other (key_of words) ≡ true
  unfolding key_le
  not_ahead e = ap is_le (sym back_is) ∙ turned_more o e

pub both : (a b : Bool) → a ≡ true → b ≡ true → (a && b) ≡ true
both a b e f = (λ i. e i && f i)

-- Where the range from one key to the greater of the two lies.

pub both_ahead : (l r : Key) (a : Interval) → before (at l) a ≡ true → before (at r) a ≡ true → before (upwards l r) a ≡ true
both_ahead l r a h k = grind arith

second_meets : (l r : Key) (a : Interval) → IsInterval a → before (at l) a ≡ true → overlap (at r) a ≡ true → overlap (upwards l r) a ≡ true
second_meets l r a ordered h k = grind (arith, le_total, le_trans l a.left a.right, le_trans a.left r l)

second_after : (l r : Key) (a : Interval) → IsInterval a → before (at l) a ≡ true → before a (at r) ≡ true → overlap (upwards l r) a ≡ true
second_after l r a ordered h k = grind (arith, le_total, le_trans l a.left a.right, le_trans a.left a.right r, le_trans a.left r l)

pub first_meets : (l r : Key) (a : Interval) → overlap (at l) a ≡ true → overlap (upwards l r) a ≡ true
first_meets l r a h = grind (arith, le_trans a.left l r)

pub second_beside : (l r : Key) (a : Interval) (side : RangeSide) → IsInterval a → before (at l) a ≡ true → (side ≡ Meets) ⊎ (side ≡ Behind)
    → IsSideOf (at r) a side
    → overlap (upwards l r) a ≡ true
second_beside l r a side ordered h (inl is) k = second_meets l r a ordered h (subst (IsSideOf (at r) a) is k)
second_beside l r a side ordered h (inr is) k = second_after l r a ordered h (subst (IsSideOf (at r) a) is k)
