use Rattle.std.proofs.Common.{sym, ◌∙◌}
use Rattle.std.proofs.lemmas.Result.{on_ok_weaker}
use Rattle.lt_runner.specs.Serial.{plays_next}
use Rattle.lt_runner.specs.Board.{Shows, numbers_on, game_on}
use Rattle.lt_runner.proofs.OnLaws.{own_board}
use Rattle.lt_runner.proofs.AddedLaws.{adding, added_on, added_waits, added_ready, added_room, added_shows}
use Rattle.lt_runner.proofs.board.Board.add.Goals as goal

pub is_waiting-requires : goal.is_waiting-requires
is_waiting-requires g c =
    let setting = g.Y.Yard.setting c.args.yard.now in
    let events = (g.Y.Pass.Pass.view c.args.pass.now).front in
    let board = c.args.self.now in
    let at = adding setting (numbers_on board) events board c.put_line.new.self c.args.line.now c.requires.board c.requires.line (sym (c.has_ended.ensures setting) ∙ c.if-has_ended.false) c.in_ok-put_line.ensures in
    record { on = added_on setting (numbers_on board) events board c.put_line.new.self c.args.line.now at }

pub returns-then-is_waiting-clause-comes : goal.returns-then-is_waiting-clause-comes
returns-then-is_waiting-clause-comes g c =
    let setting = g.Y.Yard.setting c.args.yard.now in
    let events = (g.Y.Pass.Pass.view c.args.pass.now).front in
    let board = c.args.self.now in
    let at = adding setting (numbers_on board) events board c.put_line.new.self c.args.line.now c.requires.board c.requires.line (sym (c.has_ended.ensures setting) ∙ c.if-has_ended.false) c.in_ok-put_line.ensures in
    added_waits setting (numbers_on board) events board c.put_line.new.self c.args.line.now at (sym (c.is_waiting.ensures setting) ∙ c.if-is_waiting.true)

pub play_next-requires-clause-board : goal.play_next-requires-clause-board
play_next-requires-clause-board g c = λ κs within.
    let setting = g.Y.Yard.setting c.args.yard.now in
    let events = (g.Y.Pass.Pass.view c.args.pass.now).front in
    let board = c.args.self.now in
    let at = adding setting (numbers_on board) events board c.put_line.new.self c.args.line.now c.requires.board c.requires.line (sym (c.has_ended.ensures setting) ∙ c.if-has_ended.false) c.in_ok-put_line.ensures in
    own_board setting (numbers_on board) events c.put_line.new.self at.shows.stands

pub play_next-requires-clause-goes : goal.play_next-requires-clause-goes
play_next-requires-clause-goes g c = λ κs within.
    let setting = g.Y.Yard.setting c.args.yard.now in
    let events = (g.Y.Pass.Pass.view c.args.pass.now).front in
    let board = c.args.self.now in
    let at = adding setting (numbers_on board) events board c.put_line.new.self c.args.line.now c.requires.board c.requires.line (sym (c.has_ended.ensures setting) ∙ c.if-has_ended.false) c.in_ok-put_line.ensures in
    added_ready setting (numbers_on board) events board c.put_line.new.self c.args.line.now at (sym (c.is_waiting.ensures setting) ∙ c.if-is_waiting.false)

pub play_next-requires-clause-room : goal.play_next-requires-clause-room
play_next-requires-clause-room g c = λ κs within.
    let setting = g.Y.Yard.setting c.args.yard.now in
    let events = (g.Y.Pass.Pass.view c.args.pass.now).front in
    let board = c.args.self.now in
    let at = adding setting (numbers_on board) events board c.put_line.new.self c.args.line.now c.requires.board c.requires.line (sym (c.has_ended.ensures setting) ∙ c.if-has_ended.false) c.in_ok-put_line.ensures in
    added_room setting (numbers_on board) events board c.put_line.new.self c.args.line.now at (sym (c.is_waiting.ensures setting) ∙ c.if-is_waiting.false) c.requires.room

pub returns-clause-comes : goal.returns-clause-comes
returns-clause-comes g c =
    let setting = g.Y.Yard.setting c.args.yard.now in
    let view = g.Y.Pass.Pass.view in
    let events = (view c.args.pass.now).front in
    let board = c.args.self.now in
    let mid = c.put_line.new.self in
    let line = c.args.line.now in
    let at = adding setting (numbers_on board) events board mid line c.requires.board c.requires.line (sym (c.has_ended.ensures setting) ∙ c.if-has_ended.false) c.in_ok-put_line.ensures in
    on_ok_weaker c.play_next.result
    (λ (shows : Shows setting (numbers_on mid) (view c.play_next.new.pass).front c.play_next.new.self (plays_next setting line.txn (game_on events mid))).
    added_shows setting (numbers_on board) events (view c.play_next.new.pass).front board mid c.play_next.new.self line at (sym (c.is_waiting.ensures setting) ∙ c.if-is_waiting.false) shows)
    c.play_next.ensures.comes
