use Rattle.lt_runner.specs.Board.{numbers_on}
use Rattle.lt_runner.proofs.AddedLaws.{ends_room}
use Rattle.lt_runner.proofs.board.Board.end_one.Goals as goal

pub end_first-requires-clause-room : goal.end_first-requires-clause-room
end_first-requires-clause-room g c = λ κs within.
    ends_room (g.Y.Yard.setting c.args.yard.now) (numbers_on c.args.self.now) (g.Y.Pass.Pass.view c.args.pass.now).front c.args.self.now c.requires.board c.requires.room
