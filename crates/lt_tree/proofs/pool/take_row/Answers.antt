use Rattle.lt_rows.specs.Handles.{knows}
use Rattle.lt_tree.proofs.ViewLaws.{seized_row}
use Rattle.lt_tree.proofs.pool.take_row.Goals as goal

pub load_row-requires-clause-row : goal.load_row-requires-clause-row
load_row-requires-clause-row c =
    let s = seized_row c.args.row (knows c.args.pass.now) (knows c.seize.new.pass) c.in-Taken.ensures.seized in
    (s.0, s.1)
