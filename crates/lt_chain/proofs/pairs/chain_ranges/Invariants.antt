use Rattle.std.proofs.Common.{◌≡◌, take, map}
use Rattle.lt_rows.specs.Handles.{knows, IsPassOf, IsSamePass}
use Rattle.lt_chain.proofs.PairLaws.{range_in}
use Rattle.lt_chain.proofs.pairs.chain_ranges.Given as goal

-- the ranges of the rows so far
abbrev pub invariant-loop-row : goal.invariant-loop-row
invariant-loop-row l =
    IsPassOf l.table l.pass × IsSamePass l.initial.pass l.pass × (knows l.pass ≡ knows l.initial.pass)
    × (l.ranges.items ≡ map (range_in (knows l.initial.pass)) (take l.row-index l.rows))
