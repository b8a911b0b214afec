use Rattle.std.proofs.Common.{rules, sym, subst, ◌∙◌}
use Rattle.lt_ranges.specs.Interval.{IsInterval}
use Rattle.lt_seq.specs.declared.event.Event.{Event}
use Rattle.std.specs.Prelude.{[], pos}
use Rattle.lt_rows.specs.Handles.{knows}
use Rattle.lt_rows.specs.Lawful.{IsCommit}
use Rattle.lt_locktree.proofs.OwnBuffers.{anchor_may_put, anchor_gone, own_who_commits, own_who_made}
use Rattle.lt_locktree.proofs.buffer_who.ask_own.Goals as goal

pub commit-place-requires-clause-lawful : goal.commit-place-requires-clause-lawful
commit-place-requires-clause-lawful c =
    let a = c.args.asking.now in
    let interval : IsInterval c.args.asking.now.range = search rules in
    subst (λ (e : Event). IsCommit c.args.table.now.plan (knows c.args.pass.now) e [] (pos 0)) (sym c.who_event-event.ensures)
    (own_who_commits c.args.pass.now c.args.table.now.plan a c.args.as_txn c.of.result c.requires.of.1 c.requires.asking.1
    c.requires.anchor c.requires.buffer c.requires.asking.0.0 interval (c.of.ensures ∙ c.new.ensures.items))

pub put-requires-clause-settled : goal.put-requires-clause-settled
put-requires-clause-settled c =
    let m = c.commit-place.ensures.made in
    anchor_may_put (knows c.args.pass.now) (knows c.commit-place.new.pass) c.args.asking.now.tree _ c.requires.anchor m.2

pub returns-clause-none : goal.returns-clause-none
returns-clause-none c =
    let m = c.commit-place.ensures.made in
    anchor_gone (knows c.args.pass.now) (knows c.commit-place.new.pass) c.args.asking.now.tree _ c.requires.anchor m.2
    (knows c.put.new.pass) c.put.ensures.given

pub returns-clause-made : goal.returns-clause-made
returns-clause-made c =
    own_who_made (knows c.args.pass.now) (knows c.commit-place.new.pass) (knows c.put.new.pass) c.args.asking.now c.who_event-event.result
    c.args.as_txn c.commit-place.result c.of.result c.of-2.result c.commit-place.ensures.made c.put.ensures.given
    c.who_event-event.ensures (c.of.ensures ∙ c.new.ensures.items) (c.of-2.ensures ∙ c.new-2.ensures.items)
