use Rattle.std.proofs.Common.{length}
use Rattle.lt_runner.specs.Serial.{swept}
use Rattle.lt_runner.specs.Board.{HasTable, game_on, numbers_on, above}
use Rattle.lt_runner.proofs.SweepingLaws.{Sweeping}
use Rattle.lt_runner.proofs.board.Board.sweep.Given as goal

-- what is left of the sweep goes on from here
abbrev pub invariant-loop-txn : goal.invariant-loop-txn
invariant-loop-txn g l =
    let view = g.Y.Pass.Pass.view in
    let setting = g.Y.Yard.setting l.yard in
    record {
      acts : HasTable (g.Y.Pass.Pass.origin l.pass) (g.Y.Yard.identity l.yard) setting (view l.pass);
      onward : Sweeping setting (numbers_on l.fn.self) (view l.pass).front l.self l.last (swept setting (numbers_on l.fn.self) (game_on (view l.fn.pass).front l.fn.self));
    }

-- fewer are left above the last one
abbrev pub decreases-loop-txn : goal.decreases-loop-txn
decreases-loop-txn g l = length (above l.last (numbers_on l.fn.self))
