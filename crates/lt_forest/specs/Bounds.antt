-- Bounds of the keys in a subtree: all of it lies above the lower one and below the upper one. None is no bound.
use Rattle.std.specs.Prelude.{◌≡◌, true, not, Option, Some, None}
use Rattle.lt_ranges.specs.declared.key.Key.{Key}
use Rattle.lt_ranges.specs.Key.{key_le}
use Rattle.lt_ranges.specs.Interval.{Interval}

abbrev pub Bound : Type 0
Bound = Option Key

-- a lower bound and an upper one
abbrev pub Gap : Type 0
Gap = Bound × Bound

-- the key lies above the lower bound
abbrev pub IsAbove : Bound → Key → Type 0
IsAbove None key = Unit {0}
IsAbove (Some a) key = not (key_le key a) ≡ true

-- the key lies below the upper bound
abbrev pub IsBelow : Bound → Key → Type 0
IsBelow None key = Unit {0}
IsBelow (Some a) key = not (key_le a key) ≡ true

-- the range lies between the bounds
abbrev pub IsInside : Bound → Bound → Interval → Type 0
IsInside x y range = IsAbove x range.left × IsBelow y range.right

-- a lower bound that is no greater than another
abbrev pub NoGreater : Bound → Bound → Type 0
NoGreater None b = Unit {0}
NoGreater (Some a) None = ⊥
NoGreater (Some a) (Some b) = key_le a b ≡ true

-- an upper bound that is no less than another
abbrev pub NoLess : Bound → Bound → Type 0
NoLess None b = Unit {0}
NoLess (Some a) None = ⊥
NoLess (Some a) (Some b) = key_le b a ≡ true

-- the gap g lies within the bounds x and y
abbrev pub Within : Gap → Bound → Bound → Type 0
Within g x y = NoGreater x g.0 × NoLess y g.1
