-- What contracts see of a transaction that is played.
use Rattle.std.specs.Prelude.{ℕ, List, Option, Bool}
use Rattle.lt_ranges.specs.Interval.{Interval}
use Rattle.lt_trace.specs.declared.line.Line.{Line}
use Rattle.lt_history.specs.declared.outcome.Outcome.{Outcome}
use Rattle.lt_runner.specs.declared.release.Release.{Release}

-- what it recorded in a tree: the ranges that it was granted, and whether the last of them was buffered
pub record Recorded : Type 0 where
  pub ranges : List Interval
  pub buffered : Bool

pub record Turn : Type 0 where
  pub txn : ℕ
  -- the lines that are left, the next one first
  pub lines : List Line
  -- whether the next line was held
  pub waits : Bool
  -- for each tree
  pub recorded : List Recorded
  -- how it ends, once that is settled, and what it gives back then
  pub outcome : Option Outcome
  pub releases : List Release
  -- whether it said that it is a big one
  pub big : Bool

-- A turn with what is known of its last call: whether it was refused, which may have left joins, and whether the transaction has
-- been registered as one that waits at its next line.
pub record Seat : Type 0 where
  pub turn : Turn
  pub busy : Bool
  pub listed : Bool
