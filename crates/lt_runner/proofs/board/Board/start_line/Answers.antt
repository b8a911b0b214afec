use Rattle.std.proofs.Common.{◌≡◌, arith, ap, ◌∙◌}
use Rattle.std.proofs.lemmas.Result.{on_ok_weaker}
use Rattle.lt_seq.specs.Yard.{bar_for}
use Rattle.lt_requests.specs.Registered.{with_wish}
use Rattle.lt_runner.specs.Board.{BoardView, IsTaken, numbers_on, turn_on}
use Rattle.lt_runner.proofs.SteadyLaws.{ready_goes}
use Rattle.lt_runner.proofs.SeatMoveLaws.{ready_quiet, has_number}
use Rattle.lt_runner.proofs.LockMoveLaws.{has_lock, locking, steady_on, txn_is, left_start, waiting_start, answer_shows, answer_for}
use Rattle.lt_runner.proofs.AskLaws.{not_registered, may_be_asked, may_on, started_is, table_after}
use Rattle.lt_runner.proofs.NoteLaws.{started_notes}
use Rattle.lt_runner.proofs.board.Board.start_line.Goals as goal

pub start-started-requires-clause-absent : goal.start-started-requires-clause-absent
start-started-requires-clause-absent g c = λ κs within.
    let setting = g.Y.Yard.setting c.args.yard.now in
    let events = (g.Y.Pass.Pass.view c.args.pass.now).front in
    let board = c.args.self.now in
    let txns = numbers_on board in
    let turn = turn_on setting c.args.txn board in
    let number = c.requires.goes.number in
    let at = has_lock turn.txn c.args.wish.now turn.lines c.requires.lock in
    not_registered setting txns c.args.txn events board c.args.wish.now c.self.inside.registry c.requires.board number (ap (λ (b : BoardView). b.registry) c.self.view_is)
    (ready_quiet turn c.requires.goes.ready) (at.own ∙ txn_is setting txns c.args.txn events board c.requires.board number)

pub start-started-requires-clause-wish : goal.start-started-requires-clause-wish
start-started-requires-clause-wish g c = λ κs within.
    let setting = g.Y.Yard.setting c.args.yard.now in
    let events = (g.Y.Pass.Pass.view c.args.pass.now).front in
    let board = c.args.self.now in
    let txns = numbers_on board in
    let turn = turn_on setting c.args.txn board in
    let number = c.requires.goes.number in
    let some = has_number c.args.txn txns c.requires.board.numbered number in
    may_be_asked setting turn.txn c.args.wish.now turn.lines (steady_on setting txns c.args.txn events board c.requires.board number).lines
    (omega (arith, some, txn_is setting txns c.args.txn events board c.requires.board number)) c.requires.lock

pub start-started-requires-clause-may : goal.start-started-requires-clause-may
start-started-requires-clause-may g c = λ κs within.
    let setting = g.Y.Yard.setting c.args.yard.now in
    may_on setting (numbers_on c.args.self.now) (g.Y.Pass.Pass.view c.args.pass.now).front c.args.self.now c.self.inside.registry c.requires.board (ap (λ (b : BoardView). b.registry) c.self.view_is)

pub take_answer-requires-clause-lock : goal.take_answer-requires-clause-lock
take_answer-requires-clause-lock g c =
    let setting = g.Y.Yard.setting c.args.yard.now in
    let view = g.Y.Pass.Pass.view in
    let old = view c.args.pass.now in
    let new = view c.start-started.new.pass in
    let board = c.args.self.now in
    let txns = numbers_on board in
    let txn = c.args.txn in
    let wish = c.args.wish.now in
    let registry = c.self.inside.registry in
    let left = c.start-started.new.registry in
    let started = c.start-started.result in
    let turn = turn_on setting txn board in
    let has = has_lock turn.txn wish turn.lines c.requires.lock in
    let at = locking setting txns txn old.front board wish c.requires.board c.requires.goes.number (ready_goes turn c.requires.goes.ready) has in
    let registry_is : registry ≡ board.registry = ap (λ (b : BoardView). b.registry) c.self.view_is in
    let all = waiting_start setting txns txn old.front board wish has.line has.rest registry at (ready_quiet turn c.requires.goes.ready) registry_is in
    let made = started_is setting txns txn board (g.Y.Pass.Pass.origin c.args.pass.now) (g.Y.Yard.identity c.args.yard.now) wish has.line has.rest (bar_for setting c.is_big-big.result)
    registry (with_wish wish registry) registry old new left started at c.requires.acts (ap (bar_for setting) (c.is_big-big.ensures setting)) all c.requires.room c.start-started.ensures.answer in
    let mid : BoardView = record { seats = c.self.inside.turns.items; registry = left; released = c.self.inside.released } in
    answer_for setting txns txn old.front new.front board mid wish has.line has.rest left started at c.requires.acts.plan.trees_most (ap (λ (b : BoardView). record b { registry = left }) c.self.view_is) made

pub returns-clause-comes : goal.returns-clause-comes
returns-clause-comes g c =
    let setting = g.Y.Yard.setting c.args.yard.now in
    let view = g.Y.Pass.Pass.view in
    let old = view c.args.pass.now in
    let new = view c.start-started.new.pass in
    let board = c.args.self.now in
    let txns = numbers_on board in
    let txn = c.args.txn in
    let wish = c.args.wish.now in
    let registry = c.self.inside.registry in
    let left = c.start-started.new.registry in
    let started = c.start-started.result in
    let turn = turn_on setting txn board in
    let has = has_lock turn.txn wish turn.lines c.requires.lock in
    let at = locking setting txns txn old.front board wish c.requires.board c.requires.goes.number (ready_goes turn c.requires.goes.ready) has in
    let registry_is : registry ≡ board.registry = ap (λ (b : BoardView). b.registry) c.self.view_is in
    let quiet = ready_quiet turn c.requires.goes.ready in
    let all = waiting_start setting txns txn old.front board wish has.line has.rest registry at quiet registry_is in
    let made = started_is setting txns txn board (g.Y.Pass.Pass.origin c.args.pass.now) (g.Y.Yard.identity c.args.yard.now) wish has.line has.rest (bar_for setting c.is_big-big.result)
    registry (with_wish wish registry) registry old new left started at c.requires.acts (ap (bar_for setting) (c.is_big-big.ensures setting)) all c.requires.room c.start-started.ensures.answer in
    let so = left_start setting txns txn old.front board wish has.line has.rest (bar_for setting c.is_big-big.result) registry old new left started at quiet registry_is c.start-started.ensures.answer in
    let mid : BoardView = record { seats = c.self.inside.turns.items; registry = left; released = c.self.inside.released } in
    on_ok_weaker c.take_answer.result
    (λ (taken : IsTaken txn started mid c.take_answer.new.self).
    answer_shows setting txns txn old.front new.front board mid c.take_answer.new.self wish has.line has.rest left started at (ap (λ (b : BoardView). record b { registry = left }) c.self.view_is) made so taken)
    c.take_answer.ensures

pub returns-clause-acts : goal.returns-clause-acts
returns-clause-acts g c =
    let setting = g.Y.Yard.setting c.args.yard.now in
    let view = g.Y.Pass.Pass.view in
    let old = view c.args.pass.now in
    let new = view c.start-started.new.pass in
    let wish = c.args.wish.now in
    let registry = c.self.inside.registry in
    table_after setting (g.Y.Pass.Pass.origin c.args.pass.now) (g.Y.Pass.Pass.origin c.start-started.new.pass) (g.Y.Yard.identity c.args.yard.now) old new c.requires.acts c.start-started.ensures.of c.start-started.ensures.keeps
    (started_notes setting _ wish registry (with_wish wish registry) registry old new c.start-started.new.registry c.start-started.result c.start-started.ensures.answer)
