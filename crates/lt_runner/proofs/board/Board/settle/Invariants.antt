use Rattle.std.proofs.Common.{drop}
use Rattle.lt_runner.specs.Serial.{settled}
use Rattle.lt_runner.specs.Board.{HasTable, game_on, numbers_on}
use Rattle.lt_runner.proofs.OnLaws.{Settling}
use Rattle.lt_runner.proofs.board.Board.settle.Given as goal

-- what is left of the sweeps goes on from here
abbrev pub invariant-loop-sweep : goal.invariant-loop-sweep
invariant-loop-sweep g l =
    let view = g.Y.Pass.Pass.view in
    let setting = g.Y.Yard.setting l.yard in
    let txns = numbers_on l.fn.self in
    record {
      acts : HasTable (g.Y.Pass.Pass.origin l.pass) (g.Y.Yard.identity l.yard) setting (view l.pass);
      onward : Settling setting txns (view l.pass).front l.self (drop l._sweep txns) (settled setting txns (game_on (view l.fn.pass).front l.fn.self));
    }
