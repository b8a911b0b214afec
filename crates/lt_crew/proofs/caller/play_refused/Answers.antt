use Rattle.std.proofs.Common.{rules, arith}
use Rattle.lt_runner.proofs.NoteLaws.{keeps_notes_then}
use Rattle.lt_crew.proofs.CallersTurnLaws.{places_at, places_stay, plays_on, some_stays, stays_both}
use Rattle.lt_crew.proofs.caller.play_refused.Goals as goal

pub play_busy-requires-clause-places : goal.play_busy-requires-clause-places
play_busy-requires-clause-places g c κs within =
    let view = g.Y.Pass.Pass.view in
    let setting = g.Y.Yard.setting c.args.yard.now in
    λ d. places_at setting (view c.loop-place.pass) c.loop-place.turns c.loop-place.place d
    (omega (arith, c.loop-place-test.true, c.loop-place.invariant.played.len))
    (some_stays setting (view c.args.pass.now) (view c.loop-place.pass) c.args.turns.now c.loop-place.turns c.requires.crew
    c.loop-place.invariant.crew)
    (places_stay setting (view c.args.pass.now) (view c.loop-place.pass) c.args.turns.now c.loop-place.turns 0 c.requires.places
    c.loop-place.invariant.paid)

pub loop-place-preserved : goal.loop-place-preserved
loop-place-preserved g c =
    let view = g.Y.Pass.Pass.view in
    let setting = g.Y.Yard.setting c.args.yard.now in
    let more = plays_on setting (view c.args.pass.now) (view c.loop-place.pass) (view c.play_busy.new.pass) c.loop-place.place c.args.turns.now
    c.loop-place.turns c.play_busy.new.turns (omega (arith, c.loop-place-test.true, c.loop-place.invariant.played.len))
    c.loop-place.invariant.played c.loop-place.invariant.paid c.in_ok-play_busy.ensures.played in
    record {
      of = search rules;
      alone = search rules;
      noted = keeps_notes_then setting (view c.args.pass.now) (view c.loop-place.pass) (view c.play_busy.new.pass) c.loop-place.invariant.noted
          c.in_ok-play_busy.ensures.noted;
      crew = stays_both setting (view c.args.pass.now) (view c.loop-place.pass) (view c.play_busy.new.pass) c.args.turns.now c.loop-place.turns
          c.play_busy.new.turns c.loop-place.invariant.crew c.in_ok-play_busy.ensures.crew;
      played = more.each;
      paid = more.paid;
    }
