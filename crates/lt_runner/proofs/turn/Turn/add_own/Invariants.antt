use Rattle.std.proofs.Common.{drop}
use Rattle.lt_runner.proofs.OwnLaws.{IsOnWay}
use Rattle.lt_runner.proofs.turn.Turn.add_own.Given as goal

-- what is left goes on from here
abbrev pub invariant-loop-line : goal.invariant-loop-line
invariant-loop-line l = IsOnWay l.fn.self.turn.txn l.lines (drop l.line-index l.lines) l.fn.self l.self l.last
