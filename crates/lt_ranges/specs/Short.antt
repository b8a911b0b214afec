-- Ranges written short, for worked examples.
use Rattle.std.specs.Prelude.{ℕ, List, [], ◌∷◌}
use Rattle.lt_ranges.specs.declared.key.Key.{Key}
use Rattle.lt_ranges.specs.declared.key.Key.TheVariants.{Bytes}
use Rattle.lt_ranges.specs.Interval.{Interval}

-- from one key to another
abbrev pub between : Key → Key → Interval
between left right = record { left = left; right = right }

-- from one byte string to another
abbrev pub from_to : List ℕ → List ℕ → Interval
from_to left right = between (Bytes left) (Bytes right)

-- one byte string alone
abbrev pub at : List ℕ → Interval
at key = from_to key key

-- from a string of one byte to another
abbrev pub letters : ℕ → ℕ → Interval
letters left right = from_to (left ∷ []) (right ∷ [])
