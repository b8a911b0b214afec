use Rattle.std.proofs.Common.{sym}
use Rattle.lt_crew.proofs.CallerLaws.{may_play, stays_by_play}
use Rattle.lt_crew.proofs.ResultLaws.{on_three}
use Rattle.lt_crew.proofs.caller.play_busy.Goals as goal

pub play_alone-requires-clause-may : goal.play_alone-requires-clause-may
play_alone-requires-clause-may g c κs within =
    may_play (g.Y.Yard.setting c.args.yard.now) (g.Y.Pass.Pass.view c.args.pass.now) c.args.turns.now c.args.place c.index-turns-place.result
    c.requires.crew c.requires.inside (sym c.if-is_waiting.ensures) (c.requires.places c.index-turns-place.result)

pub returns-clause-crew : goal.returns-clause-crew
returns-clause-crew g c =
    let setting = g.Y.Yard.setting c.args.yard.now in
    let view = g.Y.Pass.Pass.view in
    on_three c.play_alone.result
    (λ fit plays spends. stays_by_play setting c.args.turns.now c.args.place c.index-turns-place.result c.play_alone.new.turn
    (view c.args.pass.now) (view c.play_alone.new.pass) c.requires.alone c.requires.inside (sym c.if-is_waiting.ensures) fit plays spends)
    c.play_alone.ensures.fit c.play_alone.ensures.plays c.play_alone.ensures.spends
