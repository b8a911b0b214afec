use Rattle.std.proofs.Common.{subst, sym, ◌∙◌}
use Rattle.std.proofs.lemmas.Result.{on_ok_weaker}
use Rattle.lt_runner.specs.Plays.{end_of}
use Rattle.lt_runner.specs.Serial.{swept, added}
use Rattle.lt_runner.specs.Board.{Shows, HasRoom, numbers_on, turn_on, game_on}
use Rattle.lt_runner.proofs.OnLaws.{shows_then}
use Rattle.lt_runner.proofs.AddedLaws.{none_ready, first_is, end_fits, ends_is, sweeps_is}
use Rattle.lt_runner.proofs.board.Board.end_first.Goals as goal

pub sweep-requires-clause-room : goal.sweep-requires-clause-room
sweep-requires-clause-room g c = λ κs within.
    let setting = g.Y.Yard.setting c.args.yard.now in
    let events = (g.Y.Pass.Pass.view c.args.pass.now).front in
    let board = c.args.self.now in
    let none = none_ready board.seats (sym c.first_ready.ensures ∙ c.in_default.is) in
    subst (HasRoom setting (numbers_on board)) (sweeps_is setting (numbers_on board) events board none) c.requires.room

pub returns-in_default-clause-comes : goal.returns-in_default-clause-comes
returns-in_default-clause-comes g c =
    let setting = g.Y.Yard.setting c.args.yard.now in
    let view = g.Y.Pass.Pass.view in
    let events = (view c.args.pass.now).front in
    let board = c.args.self.now in
    let none = none_ready board.seats (sym c.first_ready.ensures ∙ c.in_default.is) in
    on_ok_weaker c.sweep.result
    (λ (shows : Shows setting (numbers_on board) (view c.sweep.new.pass).front c.sweep.new.self (swept setting (numbers_on board) (game_on events board))).
    shows_then setting (numbers_on board) (view c.sweep.new.pass).front c.sweep.new.self _ _ shows (sym (sweeps_is setting (numbers_on board) events board none)))
    c.sweep.ensures.comes

pub add-requires-clause-line : goal.add-requires-clause-line
add-requires-clause-line g c = λ κs within.
    let setting = g.Y.Yard.setting c.args.yard.now in
    let events = (g.Y.Pass.Pass.view c.args.pass.now).front in
    let board = c.args.self.now in
    end_fits setting (numbers_on board) board c.in-Some.txn (first_is setting (numbers_on board) events board c.in-Some.txn c.requires.board (sym c.in-Some.ensures))

pub add-requires-clause-room : goal.add-requires-clause-room
add-requires-clause-room g c = λ κs within.
    let setting = g.Y.Yard.setting c.args.yard.now in
    let events = (g.Y.Pass.Pass.view c.args.pass.now).front in
    let board = c.args.self.now in
    let first = first_is setting (numbers_on board) events board c.in-Some.txn c.requires.board (sym c.in-Some.ensures) in
    subst (HasRoom setting (numbers_on board)) (ends_is setting (numbers_on board) events board c.in-Some.txn first) c.requires.room

pub returns-clause-comes : goal.returns-clause-comes
returns-clause-comes g c =
    let setting = g.Y.Yard.setting c.args.yard.now in
    let view = g.Y.Pass.Pass.view in
    let events = (view c.args.pass.now).front in
    let board = c.args.self.now in
    let txn = c.in-Some.txn in
    let first = first_is setting (numbers_on board) events board txn c.requires.board (sym c.in-Some.ensures) in
    on_ok_weaker c.add.result
    (λ (shows : Shows setting (numbers_on board) (view c.add.new.pass).front c.add.new.self (added setting (end_of txn) (turn_on setting txn board) (game_on events board))).
    shows_then setting (numbers_on board) (view c.add.new.pass).front c.add.new.self _ _ shows (sym (ends_is setting (numbers_on board) events board txn first)))
    c.add.ensures.comes
