use Rattle.std.proofs.Common.{◌∙◌, List, ap, map, sym, subst}
use Rattle.lt_seq.specs.Questions.{events_of}
use Rattle.lt_crew.specs.RunCrew.{TellsCrewRun}
use Rattle.lt_seq.specs.declared.event.JoinNote.{JoinNote}
use Rattle.lt_seq.specs.Passes.{front_of_first}
use Rattle.lt_seq.specs.Table.{Setting}
use Rattle.lt_runner.specs.Notes.{notes_in}
use Rattle.lt_watch.specs.Tellings.{after_notes}
use Rattle.lt_crew.proofs.OpeningCrewLaws.{opened_seats}
use Rattle.lt_crew.proofs.EndedCrewLaws.{told_crew}
use Rattle.lt_crew.proofs.run_on.play_turns.Goals as goal

pub play_crew-requires-clause-crew : goal.play_crew-requires-clause-crew
play_crew-requires-clause-crew g c κs within =
    let trace = c.args._trace.now in
    let setting = g.Y.Yard.setting c.args.made.0 in
    let passes = setting.plan.passes in
    (opened_seats trace passes setting.plan.first setting.marks setting c.args.turns.items c.requires.table c.requires.turns
    c.requires.trace c.requires.first).crew

pub play_crew-requires-clause-listed : goal.play_crew-requires-clause-listed
play_crew-requires-clause-listed g c κs within =
    let trace = c.args._trace.now in
    let setting = g.Y.Yard.setting c.args.made.0 in
    let passes = setting.plan.passes in
    (opened_seats trace passes setting.plan.first setting.marks setting c.args.turns.items c.requires.table c.requires.turns
    c.requires.trace c.requires.first).listed

pub play_crew-requires-clause-few : goal.play_crew-requires-clause-few
play_crew-requires-clause-few g c κs within =
    let trace = c.args._trace.now in
    let setting = g.Y.Yard.setting c.args.made.0 in
    let passes = setting.plan.passes in
    (opened_seats trace passes setting.plan.first setting.marks setting c.args.turns.items c.requires.table c.requires.turns
    c.requires.trace c.requires.first).few

pub play_crew-requires-clause-room : goal.play_crew-requires-clause-room
play_crew-requires-clause-room g c κs within =
    let trace = c.args._trace.now in
    let setting = g.Y.Yard.setting c.args.made.0 in
    let passes = setting.plan.passes in
    (opened_seats trace passes setting.plan.first setting.marks setting c.args.turns.items c.requires.table c.requires.turns
    c.requires.trace c.requires.first).room

pub returns-clause-run : goal.returns-clause-run
returns-clause-run g c =
    let trace = c.args._trace.now in
    let setting = g.Y.Yard.setting c.args.made.0 in
    let passes = setting.plan.passes in
    let view = g.Y.Pass.Pass.view in
    let played = c.in_ok-passes.ensures in
    let views = map view c.in_ok-passes.field-0.passes.items in
    let told = told_crew trace passes setting.plan.first setting.marks setting c.args.turns.items (front_of_first views) c.in_ok-passes.field-0.turns.items
    views c.in_ok-lists.field-0 c.in_ok-receipts.receipts c.in_ok-outcomes.outcomes c.requires.table c.requires.turns
    c.requires.trace played.legal played.leads played.over played.few c.in_ok-lists.ensures.rest c.in_ok-receipts.ensures.all
    c.in_ok-receipts.ensures.order c.in_ok-outcomes.ensures in
    subst (λ (s : Setting). TellsCrewRun s trace.lines (record {
      receipts = c.in_ok-receipts.receipts;
      outcomes = c.in_ok-outcomes.outcomes;
      places = c.in_ok-lists.field-0.places;
      used = c.in_ok-lists.field-0.used;
    })) (sym c.requires.table) told.run

pub returns-clause-played_to_end : goal.returns-clause-played_to_end
returns-clause-played_to_end g c =
    let trace = c.args._trace.now in
    let setting = g.Y.Yard.setting c.args.made.0 in
    let passes = setting.plan.passes in
    let view = g.Y.Pass.Pass.view in
    let played = c.in_ok-passes.ensures in
    let views = map view c.in_ok-passes.field-0.passes.items in
    let told = told_crew trace passes setting.plan.first setting.marks setting c.args.turns.items (front_of_first views) c.in_ok-passes.field-0.turns.items
    views c.in_ok-lists.field-0 c.in_ok-receipts.receipts c.in_ok-outcomes.outcomes c.requires.table c.requires.turns
    c.requires.trace played.legal played.leads played.over played.few c.in_ok-lists.ensures.rest c.in_ok-receipts.ensures.all
    c.in_ok-receipts.ensures.order c.in_ok-outcomes.ensures in
    told.numbers

pub returns-clause-few : goal.returns-clause-few
returns-clause-few g c =
    let trace = c.args._trace.now in
    let setting = g.Y.Yard.setting c.args.made.0 in
    let passes = setting.plan.passes in
    let view = g.Y.Pass.Pass.view in
    let played = c.in_ok-passes.ensures in
    let views = map view c.in_ok-passes.field-0.passes.items in
    let told = told_crew trace passes setting.plan.first setting.marks setting c.args.turns.items (front_of_first views) c.in_ok-passes.field-0.turns.items
    views c.in_ok-lists.field-0 c.in_ok-receipts.receipts c.in_ok-outcomes.outcomes c.requires.table c.requires.turns
    c.requires.trace played.legal played.leads played.over played.few c.in_ok-lists.ensures.rest c.in_ok-receipts.ensures.all
    c.in_ok-receipts.ensures.order c.in_ok-outcomes.ensures in
    told.few

pub returns-clause-told : goal.returns-clause-told
returns-clause-told g c =
    let trace = c.args._trace.now in
    let setting = g.Y.Yard.setting c.args.made.0 in
    let passes = setting.plan.passes in
    let view = g.Y.Pass.Pass.view in
    let played = c.in_ok-passes.ensures in
    let views = map view c.in_ok-passes.field-0.passes.items in
    let told = told_crew trace passes setting.plan.first setting.marks setting c.args.turns.items (front_of_first views) c.in_ok-passes.field-0.turns.items
    views c.in_ok-lists.field-0 c.in_ok-receipts.receipts c.in_ok-outcomes.outcomes c.requires.table c.requires.turns
    c.requires.trace played.legal played.leads played.over played.few c.in_ok-lists.ensures.rest c.in_ok-receipts.ensures.all
    c.in_ok-receipts.ensures.order c.in_ok-outcomes.ensures in
    c.tell_notes.ensures ∙ ap (λ (ns : List JoinNote). map (after_notes ns) (g.T.Tells.logs c.args.watch.now))
    (c.deref.ensures.value ∙ played.notes ∙ ap (λ (s : Setting). notes_in s (front_of_first views)) c.requires.table ∙ sym told.notes
    ∙ ap (λ (s : Setting). notes_in s (events_of c.in_ok-receipts.receipts.items)) (sym c.requires.table))
