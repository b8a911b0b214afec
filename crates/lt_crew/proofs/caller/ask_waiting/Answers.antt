use Rattle.std.proofs.Common.{sym}
use Rattle.std.proofs.lemmas.Result.{on_ok_weaker}
use Rattle.lt_crew.proofs.CallerLaws.{may_ask_now, stays_by_ask}
use Rattle.lt_crew.proofs.AskedLaws.{asks_at}
use Rattle.lt_crew.proofs.caller.ask_waiting.Goals as goal

pub ask_alone-requires-clause-may : goal.ask_alone-requires-clause-may
ask_alone-requires-clause-may g c κs within =
    may_ask_now (g.Y.Yard.setting c.args.yard.now) (g.Y.Pass.Pass.view c.args.pass.now) c.args.registry.now c.args.turns.now c.args.place
    c.index-turns-place.result c.requires.crew c.requires.inside (sym c.if-not-is_waiting.ensures) c.requires.places

pub returns-clause-crew : goal.returns-clause-crew
returns-clause-crew g c =
    let setting = g.Y.Yard.setting c.args.yard.now in
    let view = g.Y.Pass.Pass.view in
    on_ok_weaker c.ask_alone.result
    (λ asked. stays_by_ask setting c.args.registry.now c.ask_alone.new.registry c.args.turns.now c.args.place c.index-turns-place.result
    c.ask_alone.new.turn (view c.args.pass.now) (view c.ask_alone.new.pass) c.requires.alone c.requires.inside c.requires.places asked)
    c.ask_alone.ensures.asked

pub returns-clause-asked : goal.returns-clause-asked
returns-clause-asked g c =
    let setting = g.Y.Yard.setting c.args.yard.now in
    let view = g.Y.Pass.Pass.view in
    on_ok_weaker c.ask_alone.result
    (λ asked e. asks_at setting (view c.args.pass.now) (view c.ask_alone.new.pass) c.args.registry.now c.ask_alone.new.registry c.args.turns.now
    c.args.place c.index-turns-place.result e c.ask_alone.new.turn c.requires.alone c.requires.crew c.requires.inside
    (sym c.if-not-is_waiting.ensures) c.requires.places asked)
    c.ask_alone.ensures.asked
