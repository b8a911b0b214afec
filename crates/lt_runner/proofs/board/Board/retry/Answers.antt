use Rattle.std.proofs.lemmas.Result.{on_ok_weaker}
use Rattle.lt_runner.specs.Serial.{plays_on}
use Rattle.lt_runner.specs.Board.{Shows, game_on, numbers_on, turn_on}
use Rattle.lt_runner.proofs.SweepingLaws.{retry_parts, retry_release_room, retry_on_room, retry_shows}
use Rattle.lt_runner.proofs.board.Board.retry.Goals as goal

pub retry_line-requires-clause-room : goal.retry_line-requires-clause-room
retry_line-requires-clause-room g c = λ κs within.
    (retry_parts (g.Y.Yard.setting c.args.yard.now) (numbers_on c.args.self.now) c.args.txn (g.Y.Pass.Pass.view c.args.pass.now).front c.args.self.now
    c.requires.board c.requires.number c.requires.waits c.requires.room).moved_room

pub release-requires-clause-room : goal.release-requires-clause-room
release-requires-clause-room g c = λ κs within.
    let setting = g.Y.Yard.setting c.args.yard.now in
    let view = g.Y.Pass.Pass.view in
    let parts = retry_parts setting (numbers_on c.args.self.now) c.args.txn (view c.args.pass.now).front c.args.self.now c.requires.board c.requires.number c.requires.waits c.requires.room in
    retry_release_room setting (numbers_on c.args.self.now) c.args.txn _ (view c.retry_line.new.pass).front c.retry_line.new.self parts c.in_ok-retry_line.ensures.comes

pub play_on-requires-clause-room : goal.play_on-requires-clause-room
play_on-requires-clause-room g c = λ κs within.
    let setting = g.Y.Yard.setting c.args.yard.now in
    let view = g.Y.Pass.Pass.view in
    let parts = retry_parts setting (numbers_on c.args.self.now) c.args.txn (view c.args.pass.now).front c.args.self.now c.requires.board c.requires.number c.requires.waits c.requires.room in
    retry_on_room setting (numbers_on c.args.self.now) c.args.txn _ (view c.retry_line.new.pass).front (view c.release.new.pass).front c.retry_line.new.self c.release.new.self
    parts c.in_ok-retry_line.ensures.comes c.in_ok-release.ensures.comes c.requires.room

pub returns-clause-comes : goal.returns-clause-comes
returns-clause-comes g c =
    let setting = g.Y.Yard.setting c.args.yard.now in
    let view = g.Y.Pass.Pass.view in
    let txns = numbers_on c.args.self.now in
    let events = (view c.args.pass.now).front in
    let parts = retry_parts setting txns c.args.txn events c.args.self.now c.requires.board c.requires.number c.requires.waits c.requires.room in
    on_ok_weaker c.play_on.result
    (λ (last : Shows setting (numbers_on c.release.new.self) (view c.play_on.new.pass).front c.play_on.new.self
    (plays_on setting c.args.txn (turn_on setting c.args.txn c.release.new.self).lines (game_on (view c.release.new.pass).front c.release.new.self))).
    retry_shows setting txns c.args.txn (game_on events c.args.self.now) (view c.retry_line.new.pass).front (view c.release.new.pass).front (view c.play_on.new.pass).front
    c.retry_line.new.self c.release.new.self c.play_on.new.self parts c.in_ok-retry_line.ensures.comes c.in_ok-release.ensures.comes last)
    c.play_on.ensures.comes
