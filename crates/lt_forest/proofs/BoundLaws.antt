-- Laws of bounds. All that is used of keys above this file is here.
use Rattle.std.proofs.Common.{◌≡◌, true, false, not, ◌&&◌, Bool, refl, arith}
use Rattle.std.specs.Prelude.{Some, None}
use Rattle.lt_ranges.specs.declared.key.Key.{Key}
use Rattle.lt_ranges.specs.declared.key.Key.TheVariants.{Below, Above}
use Rattle.lt_ranges.specs.Key.{key_le, key_min, key_max}
use Rattle.lt_ranges.proofs.KeyLaws.{le_itself, le_trans, le_total}
use Rattle.lt_ranges.specs.Interval.{Interval, hull, overlap, whole}
use Rattle.lt_forest.specs.Bounds.{Bound, IsAbove, IsBelow, IsInside, NoGreater, NoLess}

-- keys

pub lt_le : (a b c : Key) → not (key_le b a) ≡ true → key_le b c ≡ true → not (key_le c a) ≡ true
lt_le a b c h k = grind (arith, le_trans b c a)

pub le_lt : (a b c : Key) → key_le a b ≡ true → not (key_le c b) ≡ true → not (key_le c a) ≡ true
le_lt a b c h k = grind (arith, le_trans c a b)

pub lt_is : (a b : Key) → not (key_le b a) ≡ true → key_le a b ≡ true
lt_is a b h = grind (arith, le_total b a)

pub not_both : (b : Bool) → not b ≡ true → b ≡ true → ⊥
not_both true h k = cc
not_both false h k = cc

below_all : (k : Key) → key_le Below k ≡ true
unfolding key_le
below_all Below = refl
below_all _ = refl

above_all : (k : Key) → key_le k Above ≡ true
unfolding key_le
above_all Above = refl
above_all _ = refl

-- bounds that are looser

pub above_wider : (u x : Bound) (k : Key) → NoGreater u x → IsAbove x k → IsAbove u k
above_wider None x k w h = tt
above_wider (Some a) None k w h = absurd w
above_wider (Some a) (Some b) k w h = le_lt a b k w h

pub below_wider : (v y : Bound) (k : Key) → NoLess v y → IsBelow y k → IsBelow v k
below_wider None y k w h = tt
below_wider (Some a) None k w h = absurd w
below_wider (Some a) (Some b) k w h = lt_le k b a h w

pub above_more : (x : Bound) (a b : Key) → IsAbove x a → key_le a b ≡ true → IsAbove x b
above_more None a b h le = tt
above_more (Some k) a b h le = lt_le k a b h le

pub below_less : (y : Bound) (a b : Key) → IsBelow y b → key_le a b ≡ true → IsBelow y a
below_less None a b h le = tt
below_less (Some k) a b h le = le_lt a b k le h

pub greater_trans : (a b c : Bound) → NoGreater a b → NoGreater b c → NoGreater a c
greater_trans None b c p q = tt
greater_trans (Some a) None c p q = absurd p
greater_trans (Some a) (Some b) None p q = absurd q
greater_trans (Some a) (Some b) (Some c) p q = le_trans a b c p q

pub less_trans : (a b c : Bound) → NoLess a b → NoLess b c → NoLess a c
less_trans None b c p q = tt
less_trans (Some a) None c p q = absurd p
less_trans (Some a) (Some b) None p q = absurd q
less_trans (Some a) (Some b) (Some c) p q = le_trans c b a q p

pub greater_same : (a : Bound) → NoGreater a a
greater_same None = tt
greater_same (Some a) = le_itself a

pub less_same : (a : Bound) → NoLess a a
less_same None = tt
less_same (Some a) = le_itself a

-- a bound below a key is no greater than that key
pub above_is : (x : Bound) (k : Key) → IsAbove x k → NoGreater x (Some k)
above_is None k h = tt
above_is (Some a) k h = lt_is a k h

pub below_is : (y : Bound) (k : Key) → IsBelow y k → NoLess y (Some k)
below_is None k h = tt
below_is (Some a) k h = lt_is k a h

-- ranges

-- the hull of two ranges between bounds lies between them
pub hull_inside : (x y : Bound) (a b : Interval) → IsInside x y a → IsInside x y b → IsInside x y (hull a b)
hull_inside x y a b p q = (left x p.0 q.0, right y p.1 q.1)
  where
    left : (x : Bound) → IsAbove x a.left → IsAbove x b.left → IsAbove x (key_min a.left b.left)
    left None h k = tt
    left (Some m) h k = grind arith

    right : (y : Bound) → IsBelow y a.right → IsBelow y b.right → IsBelow y (key_max a.right b.right)
    right None h k = tt
    right (Some m) h k = grind arith

-- all ranges overlap the whole one
pub over_whole : (a : Interval) → overlap a whole ≡ true
over_whole a = both (key_le a.left Above) (key_le Below a.right) (above_all a.left) (below_all a.right)
  where
    both : (b c : Bool) → b ≡ true → c ≡ true → b && c ≡ true
    both true c h k = k
    both false c h k = h

-- and bounds that leave room for it leave room for any
pub in_whole : (x y : Bound) (a : Interval) → IsInside x y whole → IsInside x y a
in_whole x y a i = (low x i.0, high y i.1)
  where
    low : (x : Bound) → IsAbove x Below → IsAbove x a.left
    low None h = tt
    low (Some k) h = absurd (not_both (key_le Below k) h (below_all k))

    high : (y : Bound) → IsBelow y Above → IsBelow y a.right
    high None h = tt
    high (Some k) h = absurd (not_both (key_le k Above) h (above_all k))
