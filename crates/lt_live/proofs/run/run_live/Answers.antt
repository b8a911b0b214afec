use Rattle.std.proofs.Common.{◌≤◌, ◌∙◌, List, [], ap, map, sym, subst}
use Rattle.std.specs.List.{AllByRecursion}
use Rattle.crossbeam_queue.specs.Passes.{view}
use Rattle.lt_seq.specs.declared.event.JoinNote.{JoinNote}
use Rattle.lt_seq.specs.declared.plan.YardPlan.{YardPlan}
use Rattle.lt_seq.specs.Table.{Setting}
use Rattle.lt_seq.specs.Yard.{origin_of}
use Rattle.lt_trace.specs.declared.line.Line.{Line}
use Rattle.lt_trace.specs.Grammar.{txns_of}
use Rattle.lt_runner.specs.Serial.{setting_of}
use Rattle.lt_runner.specs.Standing.{AreFitDeeds}
use Rattle.lt_runner.proofs.TraceRoomLaws.{numbered_txns}
use Rattle.lt_watch.specs.Tellings.{after_notes}
use Rattle.lt_crew.proofs.OpeningCrewLaws.{fit_deeds}
use Rattle.lt_live.specs.declared.queue.Hand.{Hand}
use Rattle.lt_live.proofs.RunLiveLaws.{told_played}
use Rattle.lt_live.proofs.run.run_live.Goals as goal

-- the table that was built is the trace's
abbrev setting_is : YardPlan → Setting
setting_is plan = record { plan = plan; marks = [] }

pub fill-requires : goal.fill-requires
fill-requires g c = record {
  some = subst (AllByRecursion (λ n. 1 ≤ n)) (sym (c.deref.ensures.value ∙ c.in_ok-numbers.ensures ∙ ap txns_of c.lines-lines.ensures.lines))
      (numbered_txns c.args.trace.now c.lines-lines.ensures.trace);
}

pub play-requires-clause-deeds : goal.play-requires-clause-deeds
play-requires-clause-deeds g c κs within =
    let same = c.in_ok-yard.ensures.setting ∙ ap setting_is c.plan_of-plan.ensures in
    subst (λ (s : Setting). AreFitDeeds s c.lines-lines.result.now) (sym same)
    (subst (λ (ls : List Line). AreFitDeeds (setting_of c.args.trace.now c.args.workers c.args.first) ls) (sym c.lines-lines.ensures.lines)
    (fit_deeds c.args.trace.now c.args.workers c.args.first [] c.lines-lines.ensures.trace))

pub returns-clause-run : goal.returns-clause-run
returns-clause-run g c =
    let trace = c.args.trace.now in
    let place = origin_of (g.Y.Yard.identity c.in_ok-yard.yard) (g.Y.Yard.setting c.in_ok-yard.yard) in
    let same = c.in_ok-yard.ensures.setting ∙ ap setting_is c.plan_of-plan.ensures in
    let numbers = ap (λ (h : Hand). h.put) c.in_ok-queue.ensures.1 ∙ c.deref.ensures.value ∙ c.in_ok-numbers.ensures in
    (told_played g.Y.Pass.Pass.origin g.Y.Pass.Pass.view place trace c.args.workers c.args.first c.lines-lines.result.now
    (view c.in_ok-queue.ticket).put c.in_ok-passes.field-0 c.in_ok-lists.field-0 c.in_ok-receipts.receipts c.in_ok-outcomes.outcomes same
    c.lines-lines.ensures.lines c.lines-lines.ensures.trace numbers c.in_ok-passes.ensures c.in_ok-lists.ensures.rest c.in_ok-receipts.ensures.all
    c.in_ok-receipts.ensures.order c.in_ok-outcomes.ensures).told.run

pub returns-clause-played_to_end : goal.returns-clause-played_to_end
returns-clause-played_to_end g c =
    let trace = c.args.trace.now in
    let place = origin_of (g.Y.Yard.identity c.in_ok-yard.yard) (g.Y.Yard.setting c.in_ok-yard.yard) in
    let same = c.in_ok-yard.ensures.setting ∙ ap setting_is c.plan_of-plan.ensures in
    let numbers = ap (λ (h : Hand). h.put) c.in_ok-queue.ensures.1 ∙ c.deref.ensures.value ∙ c.in_ok-numbers.ensures in
    (told_played g.Y.Pass.Pass.origin g.Y.Pass.Pass.view place trace c.args.workers c.args.first c.lines-lines.result.now
    (view c.in_ok-queue.ticket).put c.in_ok-passes.field-0 c.in_ok-lists.field-0 c.in_ok-receipts.receipts c.in_ok-outcomes.outcomes same
    c.lines-lines.ensures.lines c.lines-lines.ensures.trace numbers c.in_ok-passes.ensures c.in_ok-lists.ensures.rest c.in_ok-receipts.ensures.all
    c.in_ok-receipts.ensures.order c.in_ok-outcomes.ensures).told.numbers

pub returns-clause-told : goal.returns-clause-told
returns-clause-told g c =
    let trace = c.args.trace.now in
    let place = origin_of (g.Y.Yard.identity c.in_ok-yard.yard) (g.Y.Yard.setting c.in_ok-yard.yard) in
    let same = c.in_ok-yard.ensures.setting ∙ ap setting_is c.plan_of-plan.ensures in
    let numbers = ap (λ (h : Hand). h.put) c.in_ok-queue.ensures.1 ∙ c.deref.ensures.value ∙ c.in_ok-numbers.ensures in
    let told = told_played g.Y.Pass.Pass.origin g.Y.Pass.Pass.view place trace c.args.workers c.args.first c.lines-lines.result.now
    (view c.in_ok-queue.ticket).put c.in_ok-passes.field-0 c.in_ok-lists.field-0 c.in_ok-receipts.receipts c.in_ok-outcomes.outcomes same
    c.lines-lines.ensures.lines c.lines-lines.ensures.trace numbers c.in_ok-passes.ensures c.in_ok-lists.ensures.rest c.in_ok-receipts.ensures.all
    c.in_ok-receipts.ensures.order c.in_ok-outcomes.ensures in
    c.tell_notes.ensures
    ∙ ap (λ (ns : List JoinNote). map (after_notes ns) (g.T.Tells.logs c.args.watch.now)) (c.deref-2.ensures.value ∙ told.notes_are)
