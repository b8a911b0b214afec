use Rattle.std.proofs.Common.{drop}
use Rattle.lt_runner.specs.Serial.{plays_on}
use Rattle.lt_runner.specs.Board.{HasTable, game_on, numbers_on, turn_on}
use Rattle.lt_runner.proofs.OnLaws.{PlayingOn}
use Rattle.lt_runner.proofs.board.Board.play_on.Given as goal

-- what is left of its lines goes on from here
abbrev pub invariant-loop-line : goal.invariant-loop-line
invariant-loop-line g l =
    let view = g.Y.Pass.Pass.view in
    let setting = g.Y.Yard.setting l.yard in
    let lines = (turn_on setting l.txn l.fn.self).lines in
    record {
      acts : HasTable (g.Y.Pass.Pass.origin l.pass) (g.Y.Yard.identity l.yard) setting (view l.pass);
      onward : PlayingOn setting (numbers_on l.fn.self) l.txn (view l.pass).front l.self (drop l._line lines)
          (plays_on setting l.txn lines (game_on (view l.fn.pass).front l.fn.self));
    }
