use Rattle.std.proofs.Common.{ℕ, drop, fold}
use Rattle.lt_runner.specs.Serial.{ends_one}
use Rattle.lt_runner.specs.Board.{HasTable, game_on, numbers_on}
use Rattle.lt_runner.proofs.WholeRunLaws.{Ending}
use Rattle.lt_runner.proofs.board.Board.end_all.Given as goal

-- what is left of the rounds goes on from here
abbrev pub invariant-loop-round : goal.invariant-loop-round
invariant-loop-round g l =
    let view = g.Y.Pass.Pass.view in
    let setting = g.Y.Yard.setting l.yard in
    let txns = numbers_on l.fn.self in
    record {
      acts : HasTable (g.Y.Pass.Pass.origin l.pass) (g.Y.Yard.identity l.yard) setting (view l.pass);
      onward : Ending setting txns (view l.pass).front l.self (drop l._round txns)
          (fold (λ game (txn : ℕ). ends_one setting txns game) (game_on (view l.fn.pass).front l.fn.self) txns);
    }
