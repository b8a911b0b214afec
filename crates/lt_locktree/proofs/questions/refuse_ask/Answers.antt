use Rattle.std.proofs.Common.{rules, refl}
use Rattle.lt_ranges.specs.Interval.{IsInterval}
use Rattle.lt_tree.specs.Pools.{pool_rows}
use Rattle.lt_rows.specs.Handles.{knows}
use Rattle.lt_seq.specs.declared.event.Reply.TheVariants.{HeldBy}
use Rattle.lt_locktree.proofs.MadeDeeds.{held_made}
use Rattle.lt_locktree.proofs.Served.{held_by_some}
use Rattle.lt_locktree.proofs.questions.refuse_ask.Goals as goal

pub finish-pass-requires-clause-lawful : goal.finish-pass-requires-clause-lawful
finish-pass-requires-clause-lawful c =
    let held = c.args.locked in
    let interval : IsInterval c.args.asking.now.range = search rules in
    held_by_some held.pass held.table.now.plan held.tree held.asked held.held held.part.rows.items held.part.hangs.items
    (pool_rows (knows held.pass).plan.trees held.pool) c.requires.locked c.requires.closed held.of.0.1 held.of.2 c.args.asking.now c.requires.asking
    interval held.pass.numbered.0 c.args.owners c.requires.owners c.requires.some

pub returns-clause-made : goal.returns-clause-made
returns-clause-made c =
    let held = c.args.locked in
    let a = c.args.asking.now in
    held_made (knows held.pass) (knows c.finish-pass.result.0) a c.args.owners c.args.copy c.reply_of-reply.result c.finish-pass.result.1
    c.finish-pass.ensures.made (c.reply_of-reply.ensures a.tree a.range (HeldBy c.args.owners) refl) c.requires.copy
