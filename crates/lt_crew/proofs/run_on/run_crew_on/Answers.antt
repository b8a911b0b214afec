use Rattle.lt_crew.proofs.OpeningCrewLaws.{seats_are}
use Rattle.lt_crew.proofs.run_on.run_crew_on.Goals as goal

pub play_turns-requires-clause-turns : goal.play_turns-requires-clause-turns
play_turns-requires-clause-turns g c κs within =
    seats_are c.args.trace.now c.lines.result.now c.trees.result c.in_ok-turns.turns.items c.lines.ensures.lines c.trees.ensures c.in_ok-turns.ensures
