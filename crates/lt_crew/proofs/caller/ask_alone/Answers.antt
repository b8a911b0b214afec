use Rattle.lt_runner.proofs.NoteLaws.{started_notes}
use Rattle.lt_crew.proofs.AskingLaws.{answered_at, has_answer}
use Rattle.lt_seq.specs.Yard.{bar_for}
use Rattle.lt_requests.specs.Registered.{is_registered}
use Rattle.lt_runner.specs.Listed.{wishes_for, others_for}
use Rattle.lt_crew.proofs.caller.ask_alone.Goals as goal

pub take_answer-requires-clause-has : goal.take_answer-requires-clause-has
take_answer-requires-clause-has g c =
    let setting = g.Y.Yard.setting c.args.yard.now in
    let view = g.Y.Pass.Pass.view in
    let old = view c.args.pass.now in
    let new = view c.start_or_retry-started.new.pass in
    let left = c.start_or_retry-started.new.registry in
    let answer = c.start_or_retry-started.result in
    has_answer setting old new c.args.registry.now c.args.turn.now c.requires.may left answer c.requires.alone
    (answered_at setting old new c.args.registry.now c.args.turn.now c.requires.may c.in-Some.wish c.is_big-big.result left answer
    c.in-Some.ensures c.is_big-big.ensures c.start_or_retry-started.ensures.answer)

pub returns-clause-noted : goal.returns-clause-noted
returns-clause-noted g c =
    let setting = g.Y.Yard.setting c.args.yard.now in
    let view = g.Y.Pass.Pass.view in
    let wish = c.in-Some.wish in
    let registry = c.args.registry.now in
    started_notes setting (bar_for setting c.is_big-big.result) wish (others_for (is_registered wish.txn registry) wish registry)
    (wishes_for (is_registered wish.txn registry) wish registry) registry (view c.args.pass.now) (view c.start_or_retry-started.new.pass)
    c.start_or_retry-started.new.registry c.start_or_retry-started.result c.start_or_retry-started.ensures.answer
