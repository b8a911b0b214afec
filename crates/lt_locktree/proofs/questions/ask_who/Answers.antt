use Rattle.std.proofs.Common.{rules, ap, map, ◌∙◌, refl}
use Rattle.lt_ranges.specs.Interval.{IsInterval}
use Rattle.lt_seq.specs.Pairs.{others}
use Rattle.lt_forest.specs.declared.part.Part.{Part}
use Rattle.lt_forest.specs.Parts.{row_pair}
use Rattle.lt_tree.specs.Pools.{pool_rows}
use Rattle.lt_rows.specs.Handles.{knows}
use Rattle.lt_locktree.proofs.MadeDeeds.{who_made}
use Rattle.lt_locktree.proofs.Served.{who_served}
use Rattle.lt_locktree.proofs.questions.ask_who.Goals as goal

pub finish-pass-requires-clause-lawful : goal.finish-pass-requires-clause-lawful
finish-pass-requires-clause-lawful c =
    let held = c.args.locked in
    let interval : IsInterval c.args.asking.now.range = search rules in
    let rows_is = c.deref.ensures.value ∙ ap (λ (p : Part). p.rows.items) c.part.ensures in
    who_served held.pass held.table.now.plan held.tree held.asked held.held held.part.rows.items held.part.hangs.items
    (pool_rows (knows held.pass).plan.trees held.pool) c.requires.locked c.requires.closed held.of.0.1 held.of.2 c.args.asking.now c.requires.asking
    interval held.pass.numbered.0 c.args.as_txn c.in-Ok.owners
    (c.in-Ok.ensures ∙ ap (λ rs. others c.args.as_txn c.args.asking.now.range (map row_pair rs)) rows_is)

pub returns-clause-made : goal.returns-clause-made
returns-clause-made c =
    let held = c.args.locked in
    let a = c.args.asking.now in
    who_made (knows held.pass) (knows c.finish-pass.result.0) a c.args.as_txn c.in-Ok.owners c.in-Ok-again.copy c.named_by-owners.result c.finish-pass.result.1
    c.finish-pass.ensures.made (c.named_by-owners.ensures a.tree a.range c.args.as_txn c.in-Ok.owners refl) c.in-Ok-again.ensures
