use Rattle.std.proofs.Common.{◌≡◌, ◌<◌, List, length, rules, arith, ap, ◌∙◌}
use Rattle.std.proofs.lemmas.List.Sorted.{answers_always}
use Rattle.lt_runner.specs.TurnView.{Seat}
use Rattle.lt_runner.specs.Board.{BoardView}
use Rattle.lt_runner.proofs.BoardLaws.{seat_found, seat_missed, turn_at}
use Rattle.lt_runner.proofs.board.Board.place_of.Goals as goal

pub unreachable-requires : goal.unreachable-requires
unreachable-requires c =
    let by_key = c.in_default.ensures.position (λ turn. turn.turn.txn) (answers_always _ _ _ (λ f a r g called. search rules)) in
    let same : c.deref.result.now ≡ c.args.self.now.seats = c.deref.ensures.value ∙ ap (λ (b : BoardView). b.seats) c.self.view_is in
    seat_missed c.args.self.now c.deref.result.now c.args.txn c.in_default.field-0 same c.requires.on by_key

pub returns-clause-number : goal.returns-clause-number
returns-clause-number c =
    let by_key = c.in-Ok.ensures.position (λ turn. turn.turn.txn) (answers_always _ _ _ (λ f a r g called. search rules)) in
    let same : c.deref.result.now ≡ c.args.self.now.seats = c.deref.ensures.value ∙ ap (λ (b : BoardView). b.seats) c.self.view_is in
    seat_found c.args.self.now c.deref.result.now c.args.txn c.in-Ok.place same by_key

pub returns-clause-found : goal.returns-clause-found
returns-clause-found c = λ setting d.
    let by_key = c.in-Ok.ensures.position (λ turn. turn.turn.txn) (answers_always _ _ _ (λ f a r g called. search rules)) in
    let same : c.deref.result.now ≡ c.args.self.now.seats = c.deref.ensures.value ∙ ap (λ (b : BoardView). b.seats) c.self.view_is in
    let number = seat_found c.args.self.now c.deref.result.now c.args.txn c.in-Ok.place same by_key d in
    let inside : c.in-Ok.place < length c.args.self.now.seats = omega (arith, ap (λ (ss : List Seat). length ss) same, c.in-Ok.ensures.bound) in
    turn_at setting c.args.txn c.args.self.now c.in-Ok.place d c.requires.on.sorted inside number
