-- Places in a part that is read in key order.
use Rattle.std.specs.Prelude.{◌≡◌, ℕ, ◌+◌, List, ◌∷◌, ◌++◌, length, replicate, true}
use Rattle.lt_ranges.specs.Interval.{Interval, before, overlap}
use Rattle.lt_seq.specs.declared.event.Pair.{Pair}
use Rattle.lt_forest.specs.declared.part.PartRow.{PartRow}
use Rattle.lt_forest.specs.Pairs.{Has}

-- between these rows hangs the link l
pub record HangsAt (rows : List PartRow) (hangs : List ℕ) (ahead : List PartRow) (l : ℕ) (behind : List PartRow) : Type 0 where
  pub links_ahead : List ℕ
  pub links_behind : List ℕ
  pub rows_are : rows ≡ ahead ++ behind
  pub hangs_are : hangs ≡ links_ahead ++ l ∷ links_behind
  pub place : length links_ahead ≡ length ahead

-- the list is made of pairs that end before the range, pairs that overlap it, and pairs that begin behind it
pub record SplitsAt (range : Interval) (pairs : List Pair) : Type 0 where
  pub ahead : List Pair
  pub over : List Pair
  pub behind : List Pair
  pub is : pairs ≡ ahead ++ (over ++ behind)
  pub ends_before : (p : Pair) → Has p ahead → before p.range range ≡ true
  pub overlaps : (p : Pair) → Has p over → overlap p.range range ≡ true
  pub begins_behind : (p : Pair) → Has p behind → before range p.range ≡ true

-- behind these rows stands a row, and between it and the rows of the run, and within the run, hangs nothing
pub record RunHangsNone (hangs : List ℕ) (ahead : List PartRow) (run : List PartRow) : Type 0 where
  pub links_ahead : List ℕ
  pub links_behind : List ℕ
  pub hangs_are : hangs ≡ links_ahead ++ (replicate (length run) 0 ++ links_behind)
  pub place : length links_ahead ≡ length ahead + 1

-- nothing hangs behind these rows
pub record PlaceIsFree (hangs : List ℕ) (ahead : List PartRow) : Type 0 where
  pub links_ahead : List ℕ
  pub links_behind : List ℕ
  pub hangs_are : hangs ≡ links_ahead ++ 0 ∷ links_behind
  pub place : length links_ahead ≡ length ahead
