use Rattle.std.proofs.Common.{drop, fold}
use Rattle.lt_runner.specs.Serial.{takes_line}
use Rattle.lt_runner.specs.Board.{HasTable, game_on, numbers_on}
use Rattle.lt_runner.proofs.WholeRunLaws.{Taking}
use Rattle.lt_runner.proofs.board.Board.take_lines.Given as goal

-- what is left of the lines goes on from here
abbrev pub invariant-loop-line : goal.invariant-loop-line
invariant-loop-line g l =
    let view = g.Y.Pass.Pass.view in
    let setting = g.Y.Yard.setting l.yard in
    let txns = numbers_on l.fn.self in
    record {
      acts : HasTable (g.Y.Pass.Pass.origin l.pass) (g.Y.Yard.identity l.yard) setting (view l.pass);
      onward : Taking setting txns (view l.pass).front l.self (drop l.line-index l.lines) (fold (takes_line setting txns) (game_on (view l.fn.pass).front l.fn.self) l.lines);
    }
