-- On which side of a range another lies.
use Rattle.std.specs.Prelude.{IsTrue}
use Rattle.lt_ranges.specs.declared.key.Key.{Key}
use Rattle.lt_ranges.specs.Interval.{Interval, overlap, before}
use Rattle.lt_rows.specs.declared.range_side.RangeSide.{RangeSide}
use Rattle.lt_rows.specs.declared.range_side.RangeSide.TheVariants.{Before, Meets, Behind}

-- the range of one key alone
abbrev pub at : Key → Interval
at key = record { left = key; right = key }

-- the range lies on this side of the asked one
abbrev pub IsSideOf : Interval → Interval → RangeSide → Type 0
IsSideOf range asked Before = IsTrue (before range asked)
IsSideOf range asked Meets = IsTrue (overlap range asked)
IsSideOf range asked Behind = IsTrue (before asked range)
