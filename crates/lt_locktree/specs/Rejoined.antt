-- Rows of a whole tree, of which neighbours of one owner become one.
use Rattle.std.specs.Prelude.{◌≡◌, ◌+◌, List, map, length, replicate}
use Rattle.lt_ranges.specs.declared.key.Key.{Key}
use Rattle.lt_seq.specs.Pairs.{joined}
use Rattle.lt_forest.specs.declared.part.PartRow.{PartRow}
use Rattle.lt_forest.specs.Parts.{row_pair, numbers}
use Rattle.lt_locktree.specs.declared.rejoining.Rejoined.{Rejoined}
use Rattle.lt_locktree.specs.declared.leaving.LeftOut.{LeftOut}
use Rattle.lt_locktree.specs.LawsOfJoins.{StayOrGo}

-- each longest run of neighbours of one owner, between which no mark lies, is one row, and the others of the run go
pub record IsRejoined (marks : List Key) (rows : List PartRow) (after : Rejoined) : Type 0 where
  pub pairs : map row_pair after.rows.items ≡ joined marks (map row_pair rows)
  pub parted : StayOrGo rows after.rows.items (numbers after.gone.items)

-- what is left of a part below whose rows nothing hangs
pub record IsRejoinedPart (marks : List Key) (rows : List PartRow) (left : LeftOut) : Type 0 where
  pub pairs : map row_pair left.part.rows.items ≡ joined marks (map row_pair rows)
  pub parted : StayOrGo rows left.part.rows.items (numbers left.gone.items)
  pub bare : left.part.hangs.items ≡ replicate (length left.part.rows.items + 1) 0
