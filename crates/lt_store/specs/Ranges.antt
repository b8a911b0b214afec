-- What operations touch.
use Rattle.lt_ranges.specs.Interval.{Interval, whole}
use Rattle.lt_store.specs.declared.op.Op.{Op}
use Rattle.lt_store.specs.declared.op.Op.TheVariants.{Get, Put, Scan, Commit, Abort}

-- the keys that an operation touches
abbrev pub range_of : Op → Interval
range_of (Get key) = record { left = key; right = key }
range_of (Put key value) = record { left = key; right = key }
range_of (Scan range) = range
range_of Commit = whole
range_of Abort = whole
