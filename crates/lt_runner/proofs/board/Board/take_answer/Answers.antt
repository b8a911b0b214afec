use Rattle.std.proofs.Common.{length, arith, ap, ◌∙◌}
use Rattle.lt_runner.specs.TurnView.{Turn}
use Rattle.lt_runner.specs.Plays.{next_wish}
use Rattle.lt_runner.specs.Board.{BoardView, turn_on}
use Rattle.lt_runner.proofs.BoardLaws.{seat_turn, any_setting}
use Rattle.lt_runner.proofs.board.Board.take_answer.Goals as goal

pub granted-requires : goal.granted-requires
granted-requires c =
    let inner : BoardView = record { seats = c.self.inside.turns.items; registry = c.self.inside.registry; released = c.self.inside.released } in
    let turn = turn_on any_setting c.args.txn c.args.self.now in
    let here = seat_turn inner c.args.self.now c.place_of-place.result c.index_mut.result.now turn c.self.view_is c.index_mut.ensures.value (c.place_of-place.ensures.found any_setting) in
    record {
      lock = (
        c.requires.lock.wish,
        ap (λ (t : Turn). next_wish t.txn t.lines) here ∙ c.requires.lock.lock any_setting,
        omega (arith, c.requires.lock.tree any_setting, ap (λ (t : Turn). length t.recorded) here),
      );
    }

pub end_as-requires : goal.end_as-requires
end_as-requires c =
    let inner : BoardView = record { seats = c.self.inside.turns.items; registry = c.self.inside.registry; released = c.self.inside.released } in
    let turn = turn_on any_setting c.args.txn c.args.self.now in
    let here = seat_turn inner c.args.self.now c.place_of-place.result c.index_mut-in-Ok-Deadlock.result.now turn c.self.view_is c.index_mut-in-Ok-Deadlock.ensures.value
    (c.place_of-place.ensures.found any_setting) in
    omega (arith, c.requires.lock.few any_setting, ap (λ (t : Turn). length t.recorded) here)

pub end_as-requires-in-Err-OutOfLocks : goal.end_as-requires-in-Err-OutOfLocks
end_as-requires-in-Err-OutOfLocks c =
    let inner : BoardView = record { seats = c.self.inside.turns.items; registry = c.self.inside.registry; released = c.self.inside.released } in
    let turn = turn_on any_setting c.args.txn c.args.self.now in
    let here = seat_turn inner c.args.self.now c.place_of-place.result c.index_mut-in-Err-OutOfLocks.result.now turn c.self.view_is c.index_mut-in-Err-OutOfLocks.ensures.value
    (c.place_of-place.ensures.found any_setting) in
    omega (arith, c.requires.lock.few any_setting, ap (λ (t : Turn). length t.recorded) here)
