use Rattle.std.proofs.lemmas.Result.{on_ok_weaker}
use Rattle.lt_runner.proofs.NoteLaws.{keeps_notes_then}
use Rattle.lt_crew.proofs.SettledTurnLaws.{turn_settles}
use Rattle.lt_crew.proofs.TurnedLaws.{each_turned}
use Rattle.lt_crew.proofs.caller.callers_turn.Goals as goal

pub returns-clause-noted : goal.returns-clause-noted
returns-clause-noted g c =
    let view = g.Y.Pass.Pass.view in
    on_ok_weaker c.ask_for_waiting.result
    (λ asked. keeps_notes_then (g.Y.Yard.setting c.args.yard.now) (view c.args.pass.now) (view c.play_refused.new.pass)
    (view c.ask_for_waiting.new.pass) c.in_ok-play_refused.ensures.noted asked)
    c.ask_for_waiting.ensures.noted

pub returns-clause-turned : goal.returns-clause-turned
returns-clause-turned g c =
    on_ok_weaker c.ask_for_waiting.result
    (λ asked. each_turned c.args.turns.now c.play_refused.new.turns c.ask_for_waiting.new.turns c.in_ok-play_refused.ensures.played asked)
    c.ask_for_waiting.ensures.asked

pub returns-clause-settles : goal.returns-clause-settles
returns-clause-settles g c =
    let view = g.Y.Pass.Pass.view in
    on_ok_weaker c.ask_for_waiting.result
    (λ settles. turn_settles (g.Y.Yard.setting c.args.yard.now) (view c.args.pass.now).front (view c.play_refused.new.pass).front
    c.args.registry.now c.args.turns.now c.play_refused.new.turns c.ask_for_waiting.new.turns c.requires.crew c.in_ok-play_refused.ensures.crew
    c.in_ok-play_refused.ensures.played settles)
    c.ask_for_waiting.ensures.settles
