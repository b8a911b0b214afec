use Rattle.std.proofs.Common.{ℕ, fold}
use Rattle.std.proofs.lemmas.Result.{on_ok_weaker}
use Rattle.lt_runner.specs.Serial.{ends_one}
use Rattle.lt_runner.specs.Board.{Shows, game_on, numbers_on}
use Rattle.lt_runner.proofs.WholeRunLaws.{lines_room, ends_room_all, all_shows}
use Rattle.lt_runner.proofs.board.Board.play_all.Goals as goal

pub take_lines-requires-clause-room : goal.take_lines-requires-clause-room
take_lines-requires-clause-room g c = λ κs within.
    let setting = g.Y.Yard.setting c.args.yard.now in
    let events = (g.Y.Pass.Pass.view c.args.pass.now).front in
    lines_room setting (numbers_on c.args.self.now) c.args.lines.now (game_on events c.args.self.now) c.requires.board.order c.requires.lines c.requires.fresh c.requires.room

pub end_all-requires-clause-room : goal.end_all-requires-clause-room
end_all-requires-clause-room g c = λ κs within.
    let setting = g.Y.Yard.setting c.args.yard.now in
    let view = g.Y.Pass.Pass.view in
    ends_room_all setting (numbers_on c.args.self.now) c.args.lines.now (game_on (view c.args.pass.now).front c.args.self.now) (view c.take_lines.new.pass).front c.take_lines.new.self
    c.requires.fresh c.in_ok-take_lines.ensures.comes c.requires.room

pub returns-clause-comes : goal.returns-clause-comes
returns-clause-comes g c =
    let setting = g.Y.Yard.setting c.args.yard.now in
    let view = g.Y.Pass.Pass.view in
    let txns = numbers_on c.args.self.now in
    let mid = c.take_lines.new.self in
    on_ok_weaker c.end_all.result
    (λ (shows : Shows setting (numbers_on mid) (view c.end_all.new.pass).front c.end_all.new.self
    (fold (λ game (txn : ℕ). ends_one setting (numbers_on mid) game) (game_on (view c.take_lines.new.pass).front mid) (numbers_on mid))).
    all_shows setting txns c.args.lines.now (game_on (view c.args.pass.now).front c.args.self.now) (view c.take_lines.new.pass).front (view c.end_all.new.pass).front mid c.end_all.new.self
    c.requires.fresh c.in_ok-take_lines.ensures.comes shows)
    c.end_all.ensures.comes
