use Rattle.std.proofs.Common.{◌≡◌, ap, arith}
use Rattle.lt_rows.specs.declared.row_plan.RowPlan.{RowPlan}
use Rattle.lt_rows.specs.declared.table.RowTable.{RowTable}
use Rattle.lt_rows.specs.Views.{rows_of}
use Rattle.lt_locktree.proofs.stopped_tests.stopped_at.Goals as goal

pub take-requires-clause-row : goal.take-requires-clause-row
unfolding rows_of
take-requires-clause-row c =
    let limit = ap (λ (k : RowPlan). k.limit) c.plan.ensures in
    let same = ap (λ (t : RowTable). t.plan.limit) c.table.ensures in
    (omega arith, c.into_rows-rows.ensures.1 c.args.row)
