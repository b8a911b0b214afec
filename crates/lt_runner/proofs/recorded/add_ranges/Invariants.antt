use Rattle.std.proofs.Common.{◌≡◌, ◌++◌, true}
use Rattle.lt_runner.specs.Turn.{releases_by}
use Rattle.lt_runner.proofs.recorded.add_ranges.Given as goal

-- what is left goes on from here
abbrev pub invariant-loop-range : goal.invariant-loop-range
invariant-loop-range l = record {
  next : goal.iterator-loop-range.can_next l.range-iterator;
  ends : goal.iterator-loop-range.is_finite l.range-iterator;
  left : l.releases.items ++ releases_by l.tree l.first l.range-iterator ≡ l.fn.releases.items ++ releases_by l.tree true l.ranges;
}
