use Rattle.std.proofs.Common.{[]}
use Rattle.lt_runner.proofs.PlaysOnLaws.{plays_then}
use Rattle.lt_runner.proofs.NoteLaws.{keeps_notes_then}
use Rattle.lt_runner.proofs.SpendLaws.{spends_then}
use Rattle.lt_crew.proofs.ResultLaws.{on_ok}
use Rattle.lt_crew.proofs.play.play_turn.Goals as goal

pub returns-then-may_go-clause-noted : goal.returns-then-may_go-clause-noted
returns-then-may_go-clause-noted g c =
    let view = g.Y.Pass.Pass.view in
    on_ok c.play_once.result
    (λ later. keeps_notes_then (g.Y.Yard.setting c.args.yard.now) (view c.args.pass.now) (view c.play_lines.new.pass) (view c.play_once.new.pass)
    c.in_ok-play_lines.ensures.noted c.play_once.ensures.noted) c.play_once.ensures.plays

pub returns-then-may_go-clause-plays : goal.returns-then-may_go-clause-plays
returns-then-may_go-clause-plays g c =
    let view = g.Y.Pass.Pass.view in
    on_ok c.play_once.result
    (λ later. plays_then (g.Y.Yard.setting c.args.yard.now) [] (view c.args.pass.now) (view c.play_lines.new.pass) (view c.play_once.new.pass)
    c.args.turn.now c.play_lines.new.turn c.play_once.new.turn c.in_ok-play_lines.ensures.plays later) c.play_once.ensures.plays

pub returns-then-may_go-clause-spends : goal.returns-then-may_go-clause-spends
returns-then-may_go-clause-spends g c =
    let view = g.Y.Pass.Pass.view in
    on_ok c.play_once.result (λ later. spends_then (g.Y.Yard.setting c.args.yard.now) (view c.args.pass.now) (view c.play_lines.new.pass) (view c.play_once.new.pass)
    c.args.turn.now c.play_lines.new.turn c.play_once.new.turn c.in_ok-play_lines.ensures.spends later) c.play_once.ensures.spends
