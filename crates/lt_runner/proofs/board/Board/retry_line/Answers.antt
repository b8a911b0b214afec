use Rattle.std.proofs.Common.{◌≡◌, ap}
use Rattle.std.proofs.lemmas.Result.{on_ok_weaker}
use Rattle.lt_seq.specs.Yard.{bar_for}
use Rattle.lt_requests.specs.Registered.{without}
use Rattle.lt_runner.specs.Board.{BoardView, IsTaken, numbers_on, turn_on}
use Rattle.lt_runner.proofs.SteadyLaws.{waits_goes}
use Rattle.lt_runner.proofs.SweepingLaws.{lock_wish}
use Rattle.lt_runner.proofs.LockMoveLaws.{has_lock, locking, steady_on, left_retry, waiting_retry, answer_shows, answer_for}
use Rattle.lt_runner.proofs.AskLaws.{registered_is, is_there, may_on, started_is, table_after}
use Rattle.lt_runner.proofs.NoteLaws.{started_notes}
use Rattle.lt_runner.proofs.board.Board.retry_line.Goals as goal

pub retry-started-requires-clause-there : goal.retry-started-requires-clause-there
retry-started-requires-clause-there g c = λ κs within.
    let setting = g.Y.Yard.setting c.args.yard.now in
    let events = (g.Y.Pass.Pass.view c.args.pass.now).front in
    let board = c.args.self.now in
    let txns = numbers_on board in
    let turn = turn_on setting c.args.txn board in
    let steady = steady_on setting txns c.args.txn events board c.requires.board c.requires.number in
    let wish = lock_wish turn.txn turn.lines (steady.held c.requires.waits) in
    is_there c.args.txn wish.0 c.self.inside.registry
    (registered_is setting txns c.args.txn events board wish.0 c.self.inside.registry c.requires.board c.requires.number (ap (λ (b : BoardView). b.registry) c.self.view_is) c.requires.waits wish.1)

pub retry-started-requires-clause-may : goal.retry-started-requires-clause-may
retry-started-requires-clause-may g c = λ κs within.
    let setting = g.Y.Yard.setting c.args.yard.now in
    may_on setting (numbers_on c.args.self.now) (g.Y.Pass.Pass.view c.args.pass.now).front c.args.self.now c.self.inside.registry c.requires.board (ap (λ (b : BoardView). b.registry) c.self.view_is)

pub take_answer-requires-clause-lock : goal.take_answer-requires-clause-lock
take_answer-requires-clause-lock g c =
    let setting = g.Y.Yard.setting c.args.yard.now in
    let view = g.Y.Pass.Pass.view in
    let old = view c.args.pass.now in
    let new = view c.retry-started.new.pass in
    let board = c.args.self.now in
    let txns = numbers_on board in
    let txn = c.args.txn in
    let registry = c.self.inside.registry in
    let left = c.retry-started.new.registry in
    let started = c.retry-started.result in
    let turn = turn_on setting txn board in
    let steady = steady_on setting txns txn old.front board c.requires.board c.requires.number in
    let found = lock_wish turn.txn turn.lines (steady.held c.requires.waits) in
    let wish = found.0 in
    let has = has_lock turn.txn wish turn.lines found.1 in
    let at = locking setting txns txn old.front board wish c.requires.board c.requires.number (waits_goes setting turn steady c.requires.waits) has in
    let registry_is : registry ≡ board.registry = ap (λ (b : BoardView). b.registry) c.self.view_is in
    let all = waiting_retry setting txns txn old.front board wish has.line has.rest registry at c.requires.waits registry_is in
    let answer = c.retry-started.ensures.answer wish (registered_is setting txns txn old.front board wish registry c.requires.board c.requires.number registry_is c.requires.waits found.1) in
    let made = started_is setting txns txn board (g.Y.Pass.Pass.origin c.args.pass.now) (g.Y.Yard.identity c.args.yard.now) wish has.line has.rest (bar_for setting c.is_big-big.result)
    (without txn registry) registry registry old new left started at c.requires.acts (ap (bar_for setting) (c.is_big-big.ensures setting)) all c.requires.room answer in
    let mid : BoardView = record { seats = c.self.inside.turns.items; registry = left; released = c.self.inside.released } in
    answer_for setting txns txn old.front new.front board mid wish has.line has.rest left started at c.requires.acts.plan.trees_most (ap (λ (b : BoardView). record b { registry = left }) c.self.view_is) made

pub returns-clause-comes : goal.returns-clause-comes
returns-clause-comes g c =
    let setting = g.Y.Yard.setting c.args.yard.now in
    let view = g.Y.Pass.Pass.view in
    let old = view c.args.pass.now in
    let new = view c.retry-started.new.pass in
    let board = c.args.self.now in
    let txns = numbers_on board in
    let txn = c.args.txn in
    let registry = c.self.inside.registry in
    let left = c.retry-started.new.registry in
    let started = c.retry-started.result in
    let turn = turn_on setting txn board in
    let steady = steady_on setting txns txn old.front board c.requires.board c.requires.number in
    let found = lock_wish turn.txn turn.lines (steady.held c.requires.waits) in
    let wish = found.0 in
    let has = has_lock turn.txn wish turn.lines found.1 in
    let at = locking setting txns txn old.front board wish c.requires.board c.requires.number (waits_goes setting turn steady c.requires.waits) has in
    let registry_is : registry ≡ board.registry = ap (λ (b : BoardView). b.registry) c.self.view_is in
    let all = waiting_retry setting txns txn old.front board wish has.line has.rest registry at c.requires.waits registry_is in
    let answer = c.retry-started.ensures.answer wish (registered_is setting txns txn old.front board wish registry c.requires.board c.requires.number registry_is c.requires.waits found.1) in
    let made = started_is setting txns txn board (g.Y.Pass.Pass.origin c.args.pass.now) (g.Y.Yard.identity c.args.yard.now) wish has.line has.rest (bar_for setting c.is_big-big.result)
    (without txn registry) registry registry old new left started at c.requires.acts (ap (bar_for setting) (c.is_big-big.ensures setting)) all c.requires.room answer in
    let so = left_retry setting txns txn old.front board wish has.line has.rest (bar_for setting c.is_big-big.result) registry old new left started at c.requires.waits registry_is answer in
    let mid : BoardView = record { seats = c.self.inside.turns.items; registry = left; released = c.self.inside.released } in
    on_ok_weaker c.take_answer.result
    (λ (taken : IsTaken txn started mid c.take_answer.new.self).
    answer_shows setting txns txn old.front new.front board mid c.take_answer.new.self wish has.line has.rest left started at (ap (λ (b : BoardView). record b { registry = left }) c.self.view_is) made so taken)
    c.take_answer.ensures

pub returns-clause-acts : goal.returns-clause-acts
returns-clause-acts g c =
    let setting = g.Y.Yard.setting c.args.yard.now in
    let view = g.Y.Pass.Pass.view in
    let old = view c.args.pass.now in
    let new = view c.retry-started.new.pass in
    let board = c.args.self.now in
    let txns = numbers_on board in
    let txn = c.args.txn in
    let registry = c.self.inside.registry in
    let turn = turn_on setting txn board in
    let steady = steady_on setting txns txn old.front board c.requires.board c.requires.number in
    let found = lock_wish turn.txn turn.lines (steady.held c.requires.waits) in
    let wish = found.0 in
    let registry_is : registry ≡ board.registry = ap (λ (b : BoardView). b.registry) c.self.view_is in
    let answer = c.retry-started.ensures.answer wish (registered_is setting txns txn old.front board wish registry c.requires.board c.requires.number registry_is c.requires.waits found.1) in
    table_after setting (g.Y.Pass.Pass.origin c.args.pass.now) (g.Y.Pass.Pass.origin c.retry-started.new.pass) (g.Y.Yard.identity c.args.yard.now) old new c.requires.acts c.retry-started.ensures.of c.retry-started.ensures.keeps
    (started_notes setting _ wish (without txn registry) registry registry old new c.retry-started.new.registry c.retry-started.result answer)
