-- Laws of ranges.
use Rattle.std.proofs.Common.{◌≡◌, true, false, arith}
use Rattle.std.specs.Prelude.{IsTrue}
use Rattle.lt_ranges.specs.declared.key.Key.{Key}
use Rattle.lt_ranges.specs.Key.{key_le, key_max}
use Rattle.lt_ranges.proofs.KeyLaws.{le_itself, le_trans, le_total}
use Rattle.lt_ranges.specs.Interval.{Interval, IsInterval, has, overlap, before, covers, hull, ShareKey, OverlapsByKeys, CoversByKeys, IsLeastOver}

-- the hull of two ranges is a range
pub hull_ordered : (a b : Interval) → IsInterval a → IsInterval b → IsInterval (hull a b)
hull_ordered a b h k = grind (arith, le_total, le_trans a.left a.right b.right, le_trans b.left b.right a.right)

-- the hull covers both
pub covers_hull_left : (a b : Interval) → covers (hull a b) a ≡ true
covers_hull_left a b = grind (arith, le_total, le_itself)

pub covers_hull_right : (a b : Interval) → covers (hull a b) b ≡ true
covers_hull_right a b = grind (arith, le_total, le_itself)

-- two ranges that don't overlap stand one before the other
pub apart : (a b : Interval) → overlap a b ≡ false → before a b ≡ false → before b a ≡ true
apart a b h k = grind arith

-- a range before another doesn't overlap it
pub before-overlap : (a b : Interval) → before a b ≡ true → overlap a b ≡ false
before-overlap a b h = grind arith

pub overlap_back : (a b : Interval) → overlap a b ≡ overlap b a
overlap_back a b = grind arith

pub before_trans : (a b c : Interval) → before a b ≡ true → IsInterval b → before b c ≡ true → before a c ≡ true
before_trans a b c h o k = grind (arith, le_total, le_trans c.left a.right b.left, le_trans c.left b.left b.right)

-- what lies before two ranges lies before their hull
pub before_hull : (a b c : Interval) → before c a ≡ true → before c b ≡ true → before c (hull a b) ≡ true
before_hull a b c h k = grind arith

pub hull_before : (a b c : Interval) → before a c ≡ true → before b c ≡ true → before (hull a b) c ≡ true
hull_before a b c h k = grind arith

-- what overlaps the hull of two overlapping ranges overlaps one of them
pub overlap_hull : (a b c : Interval) → IsInterval c → overlap a b ≡ true → overlap c (hull a b) ≡ true → overlap c a ≡ false → overlap c b ≡ true
overlap_hull a b c o h k m = grind (arith, le_total, le_trans a.left b.right c.left, le_trans a.left c.left c.right, le_trans b.left a.right c.left, le_trans b.left c.left c.right)

-- of two ranges that don't overlap the one with the lesser left end comes first
pub apart_left : (a b : Interval) → IsInterval b → overlap a b ≡ false → key_le a.left b.left ≡ true → before a b ≡ true
apart_left a b o h k = grind (arith, le_total, le_trans a.left b.left b.right)

pub apart_right : (a b : Interval) → IsInterval a → overlap a b ≡ false → key_le a.left b.left ≡ false → before b a ≡ true
apart_right a b o h k = grind (arith, le_total, le_trans b.left a.left a.right)

-- a range overlaps itself
pub overlap_itself : (a : Interval) → IsInterval a → overlap a a ≡ true
overlap_itself a h = grind arith

-- ranges overlap where some key is in both: the greater of the left ends is one
pub overlap_by_keys : (a b : Interval) → IsInterval a → IsInterval b → OverlapsByKeys a b
overlap_by_keys a b h k = (shared, λ s. meets s.0 s.1 s.2)
  where
    shared : IsTrue (overlap a b) → ShareKey a b
    shared o = (key_max a.left b.left, grind (arith, le_total, le_itself), grind (arith, le_total, le_itself))

    meets : (key : Key) → IsTrue (has a key) → IsTrue (has b key) → IsTrue (overlap a b)
    meets key p q = grind (arith, le_trans a.left key b.right, le_trans b.left key a.right)

-- a range covers another where it has every key of the other, its ends among them
pub covers_by_keys : (a b : Interval) → IsInterval b → CoversByKeys a b
covers_by_keys a b h = (λ c key p. every c key p, λ all. covered (all b.left (grind (arith, le_itself))) (all b.right (grind (arith, le_itself))))
  where
    every : IsTrue (covers a b) → (key : Key) → IsTrue (has b key) → IsTrue (has a key)
    every c key p = grind (arith, le_trans a.left b.left key, le_trans key b.right a.right)

    covered : IsTrue (has a b.left) → IsTrue (has a b.right) → IsTrue (covers a b)
    covered p q = grind arith

-- the hull is the least range over both
pub hull_least : (a b : Interval) → IsLeastOver a b (hull a b)
hull_least a b = record {
  over_first = covers_hull_left a b;
  over_second = covers_hull_right a b;
  least = λ c p q. grind arith;
}
