use Rattle.std.proofs.Common.{◌≡◌, true, is_some, sym, ◌∙◌}
use Rattle.lt_runner.specs.Board.{BoardView, numbers_on, turn_on}
use Rattle.lt_runner.proofs.SeatMoveLaws.{seat_in, seat_fits}
use Rattle.lt_runner.proofs.ReleaseMoveLaws.{ended_still, release_places, release_shows_in}
use Rattle.lt_runner.proofs.board.Board.release.Goals as goal

pub play_alone-requires-clause-fit : goal.play_alone-requires-clause-fit
play_alone-requires-clause-fit g c = λ κs within.
    let setting = g.Y.Yard.setting c.args.yard.now in
    let events = (g.Y.Pass.Pass.view c.args.pass.now).front in
    let board = c.args.self.now in
    let inner : BoardView = record { seats = c.self.inside.turns.items; registry = c.self.inside.registry; released = c.self.inside.released } in
    let place = c.place_of-place.result in
    let at = seat_in setting (numbers_on board) c.args.txn events inner board place c.index_mut.result.now c.self.view_is c.requires.board c.place_of-place.ensures.inside c.place_of-place.ensures.number
    (c.place_of-place.ensures.found setting) c.index_mut.ensures.value in
    seat_fits setting (numbers_on board) c.args.txn events board place c.index_mut.result.now c.requires.board c.requires.number at

pub play_alone-requires-clause-goes : goal.play_alone-requires-clause-goes
play_alone-requires-clause-goes g c = λ κs within.
    let setting = g.Y.Yard.setting c.args.yard.now in
    let events = (g.Y.Pass.Pass.view c.args.pass.now).front in
    let board = c.args.self.now in
    let inner : BoardView = record { seats = c.self.inside.turns.items; registry = c.self.inside.registry; released = c.self.inside.released } in
    let place = c.place_of-place.result in
    let at = seat_in setting (numbers_on board) c.args.txn events inner board place c.index_mut.result.now c.self.view_is c.requires.board c.place_of-place.ensures.inside c.place_of-place.ensures.number
    (c.place_of-place.ensures.found setting) c.index_mut.ensures.value in
    ended_still setting (numbers_on board) c.args.txn events board place c.index_mut.result.now c.requires.board c.requires.number
    (sym (c.has_ended.ensures setting) ∙ c.if-not-has_ended.false) at

pub play_alone-requires-clause-may : goal.play_alone-requires-clause-may
play_alone-requires-clause-may g c = λ κs within.
    let setting = g.Y.Yard.setting c.args.yard.now in
    let events = (g.Y.Pass.Pass.view c.args.pass.now).front in
    let board = c.args.self.now in
    let inner : BoardView = record { seats = c.self.inside.turns.items; registry = c.self.inside.registry; released = c.self.inside.released } in
    let place = c.place_of-place.result in
    let at = seat_in setting (numbers_on board) c.args.txn events inner board place c.index_mut.result.now c.self.view_is c.requires.board c.place_of-place.ensures.inside c.place_of-place.ensures.number
    (c.place_of-place.ensures.found setting) c.index_mut.ensures.value in
    let ended : is_some (turn_on setting c.args.txn board).outcome ≡ true = sym (c.has_ended.ensures setting) ∙ c.if-not-has_ended.false in
    record {
      number = c.requires.acts.number;
      all = c.requires.acts.all;
      places = release_places setting (numbers_on board) c.args.txn events board place c.index_mut.result.now c.requires.board c.requires.number ended at c.requires.room;
    }

pub returns-clause-comes : goal.returns-clause-comes
returns-clause-comes g c =
    let setting = g.Y.Yard.setting c.args.yard.now in
    let view = g.Y.Pass.Pass.view in
    let events = (view c.args.pass.now).front in
    let board = c.args.self.now in
    let inner : BoardView = record { seats = c.self.inside.turns.items; registry = c.self.inside.registry; released = c.self.inside.released } in
    let place = c.place_of-place.result in
    let seat = c.index_mut.result.now in
    let new = c.play_alone.new.self in
    let at = seat_in setting (numbers_on board) c.args.txn events inner board place seat c.self.view_is c.requires.board c.place_of-place.ensures.inside c.place_of-place.ensures.number
    (c.place_of-place.ensures.found setting) c.index_mut.ensures.value in
    let ended : is_some (turn_on setting c.args.txn board).outcome ≡ true = sym (c.has_ended.ensures setting) ∙ c.if-not-has_ended.false in
    release_shows_in setting (numbers_on board) c.args.txn events (view c.play_alone.new.pass).front inner board place seat new c.self.view_is c.requires.board c.requires.number ended at
    c.in_ok-play_alone.ensures.played
