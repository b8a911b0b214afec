use Rattle.std.proofs.Common.{rules}
use Rattle.lt_ranges.specs.Interval.{IsInterval}
use Rattle.lt_tree.specs.Pools.{pool_rows}
use Rattle.lt_rows.specs.Handles.{knows}
use Rattle.lt_locktree.proofs.NoneServed.{none_served}
use Rattle.lt_locktree.proofs.freeing.free_none.Goals as goal

pub finish-pass-requires-clause-lawful : goal.finish-pass-requires-clause-lawful
finish-pass-requires-clause-lawful c =
    let held = c.args.locked in
    let interval : IsInterval c.args.asking.now.range = search rules in
    none_served held.pass held.table.now.plan held.tree held.asked held.held held.part.rows.items held.part.hangs.items
    (pool_rows (knows held.pass).plan.trees held.pool) c.requires.locked c.requires.closed held.of.0.1 held.of.2 c.args.asking.now c.requires.asking
    interval held.pass.numbered.0 c.requires.none
