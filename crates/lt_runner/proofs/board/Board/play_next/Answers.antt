use Rattle.lt_runner.specs.Board.{numbers_on}
use Rattle.lt_runner.proofs.OnLaws.{room_moved}
use Rattle.lt_runner.proofs.board.Board.play_next.Goals as goal

pub move_on-requires-clause-room : goal.move_on-requires-clause-room
move_on-requires-clause-room g c = λ κs within.
    room_moved (g.Y.Yard.setting c.args.yard.now) (numbers_on c.args.self.now) c.args.txn (g.Y.Pass.Pass.view c.args.pass.now).front c.args.self.now
    c.requires.board c.requires.goes.number c.requires.goes c.requires.room
