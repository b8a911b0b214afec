use Rattle.std.proofs.Common.{ap}
use Rattle.lt_seq.specs.declared.plan.YardPlan.{YardPlan}
use Rattle.lt_crew.proofs.OpeningCrewLaws.{seats_are}
use Rattle.lt_crew.proofs.run.run_crew.Goals as goal

pub play_turns-requires-clause-turns : goal.play_turns-requires-clause-turns
play_turns-requires-clause-turns g c κs within =
    seats_are c.args.trace.now c.lines.result.now c.plan_of-plan.result.trees c.in_ok-turns.turns.items c.lines.ensures.lines
    (ap (λ (plan : YardPlan). plan.trees) c.plan_of-plan.ensures) c.in_ok-turns.ensures
