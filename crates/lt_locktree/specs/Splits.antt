-- The rows of a part that overlap a range.
use Rattle.std.specs.Prelude.{◌≡◌, ℕ, ◌≤◌, List, length, take, drop, true}
use Rattle.std.specs.List.{AllWithin}
use Rattle.lt_ranges.specs.Interval.{Interval, overlap}
use Rattle.lt_forest.specs.declared.part.PartRow.{PartRow}
use Rattle.lt_locktree.specs.LawsOfGrants.{StandsBetween}

-- They stand side by side from start to end, and the range has its place between the others.
pub record IsSplit (range : Interval) (rows : List PartRow) (start end : ℕ) : Type 0 where
  pub ordered : start ≤ end
  pub within : end ≤ length rows
  pub between : StandsBetween range (take start rows) (drop end rows)
  pub met : AllWithin (λ r. overlap r.range range ≡ true) rows start end
