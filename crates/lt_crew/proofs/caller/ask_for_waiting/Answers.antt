use Rattle.std.proofs.Common.{rules, arith}
use Rattle.lt_runner.proofs.NoteLaws.{keeps_notes_then}
use Rattle.lt_crew.proofs.CallersTurnLaws.{room_at, crew_stays, asks_stay_both, asks_on}
use Rattle.lt_crew.proofs.HeldAgainLaws.{settles_more}
use Rattle.lt_crew.proofs.SettledTurnLaws.{settles_all}
use Rattle.lt_crew.proofs.caller.ask_for_waiting.Goals as goal

pub ask_waiting-requires-clause-crew : goal.ask_waiting-requires-clause-crew
ask_waiting-requires-clause-crew g c κs within =
    let view = g.Y.Pass.Pass.view in
    crew_stays (g.Y.Yard.setting c.args.yard.now) (view c.args.pass.now) (view c.loop-place.pass) c.args.registry.now c.loop-place.registry
    c.args.turns.now c.loop-place.turns c.requires.crew c.loop-place.invariant.crew

pub ask_waiting-requires-clause-places : goal.ask_waiting-requires-clause-places
ask_waiting-requires-clause-places g c κs within =
    let view = g.Y.Pass.Pass.view in
    room_at (g.Y.Yard.setting c.args.yard.now) (view c.args.pass.now) (view c.loop-place.pass) c.args.turns.now c.loop-place.turns
    c.loop-place.place (omega (arith, c.loop-place-test.true)) c.loop-place.invariant.asked.len c.requires.places c.loop-place.invariant.paid

pub loop-place-preserved : goal.loop-place-preserved
loop-place-preserved g c =
    let view = g.Y.Pass.Pass.view in
    let setting = g.Y.Yard.setting c.args.yard.now in
    let more = asks_on setting (view c.args.pass.now) (view c.loop-place.pass) (view c.ask_waiting.new.pass) c.loop-place.registry
    c.ask_waiting.new.registry c.loop-place.place c.args.turns.now c.loop-place.turns c.ask_waiting.new.turns
    (omega (arith, c.loop-place-test.true, c.loop-place.invariant.asked.len)) c.loop-place.invariant.asked c.loop-place.invariant.paid
    c.in_ok-ask_waiting.ensures.asked in
    record {
      of = search rules;
      alone = search rules;
      noted = keeps_notes_then setting (view c.args.pass.now) (view c.loop-place.pass) (view c.ask_waiting.new.pass) c.loop-place.invariant.noted
          c.in_ok-ask_waiting.ensures.noted;
      crew = asks_stay_both setting (view c.args.pass.now) (view c.loop-place.pass) (view c.ask_waiting.new.pass) c.args.registry.now
          c.loop-place.registry c.ask_waiting.new.registry c.args.turns.now c.loop-place.turns c.ask_waiting.new.turns
          c.loop-place.invariant.crew c.in_ok-ask_waiting.ensures.crew;
      settles = settles_more setting (view c.loop-place.pass) (view c.ask_waiting.new.pass) c.loop-place.registry c.ask_waiting.new.registry
          c.loop-place.place c.args.turns.now c.loop-place.turns c.ask_waiting.new.turns (view c.args.pass.now).front
          (crew_stays setting (view c.args.pass.now) (view c.loop-place.pass) c.args.registry.now c.loop-place.registry c.args.turns.now
          c.loop-place.turns c.requires.crew c.loop-place.invariant.crew) c.loop-place.invariant.alone
          (omega (arith, c.loop-place-test.true, c.loop-place.invariant.asked.len)) c.loop-place.invariant.asked.len
          (room_at setting (view c.args.pass.now) (view c.loop-place.pass) c.args.turns.now c.loop-place.turns c.loop-place.place
          (omega (arith, c.loop-place-test.true)) c.loop-place.invariant.asked.len c.requires.places c.loop-place.invariant.paid)
          c.loop-place.invariant.settles c.in_ok-ask_waiting.ensures.asked;
      asked = more.each;
      paid = more.paid;
    }

pub returns-clause-settles : goal.returns-clause-settles
returns-clause-settles g c =
    let view = g.Y.Pass.Pass.view in
    let setting = g.Y.Yard.setting c.args.yard.now in
    settles_all setting (view c.args.pass.now).front (view c.loop-place.pass).front c.args.registry.now c.loop-place.place c.args.turns.now
    c.loop-place.turns c.requires.crew c.requires.alone.plan.passes (omega (arith, c.loop-place-test.false)) c.loop-place.invariant.settles
