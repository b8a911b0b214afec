use Rattle.lt_runner.specs.Board.{numbers_on}
use Rattle.lt_runner.proofs.AddedLaws.{taken_room}
use Rattle.lt_runner.proofs.board.Board.take_line.Goals as goal

pub add-requires-clause-room : goal.add-requires-clause-room
add-requires-clause-room g c = λ κs within.
    taken_room (g.Y.Yard.setting c.args.yard.now) (numbers_on c.args.self.now) (g.Y.Pass.Pass.view c.args.pass.now).front c.args.self.now c.args.line.now c.requires.board c.requires.line c.requires.room
