use Rattle.lt_program.proofs.RunLaws.{crew_answers, live_answers, cut_answers}
use Rattle.lt_program.proofs.player.run_of.Goals as goal

pub returns-in-Crew-clause-run : goal.returns-in-Crew-clause-run
returns-in-Crew-clause-run g c =
    crew_answers c.args.player _ c.in-Crew.workers c.args.trace.now c.run_crew.result _ _ c.in-Crew.is c.run_crew.ensures.run
    c.run_crew.ensures.told

pub returns-in-Live-clause-run : goal.returns-in-Live-clause-run
returns-in-Live-clause-run g c =
    live_answers c.args.player _ c.in-Live.threads c.args.trace.now c.run_live.result _ _ c.in-Live.is c.run_live.ensures.run
    c.run_live.ensures.told

pub returns-in-Cut-clause-run : goal.returns-in-Cut-clause-run
returns-in-Cut-clause-run g c =
    cut_answers c.args.player _ c.in-Cut.workers c.args.trace.now c.run_cut.result _ _ c.in-Cut.is c.run_cut.ensures.run
    c.run_cut.ensures.told
