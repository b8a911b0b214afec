use Rattle.std.proofs.Common.{◌≡◌, ◌++◌, drop}
use Rattle.lt_runner.specs.Turn.{releases_from}
use Rattle.lt_runner.proofs.recorded.releases_of.Given as goal

-- what is left goes on from here
abbrev pub invariant-loop-tree : goal.invariant-loop-tree
invariant-loop-tree l = l.releases.items ++ releases_from l.tree (drop l.tree l.recorded) ≡ releases_from 0 l.recorded
