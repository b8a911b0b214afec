use Rattle.std.proofs.Common.{◌≡◌, sym, subst}
use Rattle.std.proofs.lemmas.Result.{on_ok_weaker}
use Rattle.lt_seq.specs.Yard.{bar_for}
use Rattle.lt_requests.specs.Registered.{with_wish}
use Rattle.lt_runner.specs.Board.{IsAnswered, seat_so}
use Rattle.lt_runner.specs.TurnView.{Seat}
use Rattle.lt_runner.proofs.NoteLaws.{started_notes}
use Rattle.lt_live.specs.Going.{MayGoOn}
use Rattle.lt_live.specs.Live.{PlaysHere}
use Rattle.lt_live.proofs.AloneLaws.{start_has, start_plays}
use Rattle.lt_live.proofs.HouseLaws.{keeps_fit}
use Rattle.lt_live.proofs.alone.ask_alone.Goals as goal

pub take_answer-requires-clause-has : goal.take_answer-requires-clause-has
take_answer-requires-clause-has g c =
    let setting = g.Y.Yard.setting c.args.yard.now in
    start_has setting (bar_for setting c.is_big-big.result) _ _ c.args.registry.now _ c.args.turn.now c.args.wish.now _ c.requires.asks
    c.start-started.ensures.answer

pub returns-clause-fit : goal.returns-clause-fit
returns-clause-fit g c =
    let setting = g.Y.Yard.setting c.args.yard.now in
    keeps_fit setting _ _ (started_notes setting (bar_for setting c.is_big-big.result) c.args.wish.now c.args.registry.now
    (with_wish c.args.wish.now c.args.registry.now) c.args.registry.now _ _ _ _ c.start-started.ensures.answer) c.requires.asks.fit

pub returns-clause-may : goal.returns-clause-may
returns-clause-may g c =
    let setting = g.Y.Yard.setting c.args.yard.now in
    let answer = c.start-started.result in
    let new = c.take_answer.new.turn in
    on_ok_weaker _ (λ (taken : IsAnswered answer × (new ≡ seat_so c.args.turn.now.turn answer)). subst (MayGoOn setting) (sym taken.1)
    (start_plays setting c.is_big-big.result _ _ c.args.registry.now _ c.args.turn.now c.args.wish.now _ c.is_big-big.ensures c.requires.asks
    c.start-started.ensures.answer taken.0).1) c.take_answer.ensures.taken

pub returns-clause-plays : goal.returns-clause-plays
returns-clause-plays g c =
    let setting = g.Y.Yard.setting c.args.yard.now in
    let view = g.Y.Pass.Pass.view in
    let answer = c.start-started.result in
    let new = c.take_answer.new.turn in
    on_ok_weaker _ (λ (taken : IsAnswered answer × (new ≡ seat_so c.args.turn.now.turn answer)).
    subst (λ (s : Seat). PlaysHere setting (view c.args.pass.now) (view c.start-started.new.pass) c.args.turn.now s) (sym taken.1)
    (start_plays setting c.is_big-big.result _ _ c.args.registry.now _ c.args.turn.now c.args.wish.now _ c.is_big-big.ensures c.requires.asks
    c.start-started.ensures.answer taken.0).0) c.take_answer.ensures.taken
