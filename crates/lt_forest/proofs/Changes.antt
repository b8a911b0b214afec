-- What a change of pairs makes of a list: some are dropped and some are added.
use Rattle.std.specs.Prelude.{◌≡◌, ◌⊎◌, List, Bool, true, false}
use Rattle.lt_ranges.specs.Interval.{Interval, overlap}
use Rattle.lt_seq.specs.declared.event.Pair.{Pair}
use Rattle.lt_seq.specs.Pairs.{IsLawful}
use Rattle.lt_forest.specs.Bounds.{Bound, IsInside}
use Rattle.lt_forest.specs.Pairs.{Has}

-- the new list is lawful, and has the added pairs and the old ones that aren't dropped
pub record Change (added : Pair → Type 0) (dropped : Pair → Bool) (old new : List Pair) : Type 0 where
  pub lawful : IsLawful new
  pub has : (p : Pair) → Has p new → added p ⊎ (Has p old × (dropped p ≡ false))
  pub gets : (p : Pair) → added p ⊎ (Has p old × (dropped p ≡ false)) → Has p new

-- what is dropped overlaps the range, and what is added stays within any bounds of the range and the old pairs
pub record IsLocal (range : Interval) (added : Pair → Type 0) (dropped : Pair → Bool) (old : List Pair) : Type 0 where
  pub over : (p : Pair) → dropped p ≡ true → overlap p.range range ≡ true
  pub within : (p : Pair) → added p → (x y : Bound) → IsInside x y range
      → ((q : Pair) → Has q old → IsInside x y q.range) → IsInside x y p.range
