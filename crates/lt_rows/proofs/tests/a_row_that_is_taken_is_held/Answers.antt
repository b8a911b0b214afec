use Rattle.std.proofs.Common.{arith}
use Rattle.lt_rows.proofs.Opens.{some_rows}
use Rattle.lt_rows.proofs.tests.a_row_that_is_taken_is_held.Goals as goal

pub take-requires-clause-row : goal.take-requires-clause-row
take-requires-clause-row g c =
    let limit = c.in_ok-table.table.sized.0.1.limit in
    let trees = c.in_ok-table.table.sized.0.1.trees in
    let s = some_rows c.in_ok-table.table.plan (omega arith) in
    ((omega arith), c.in_ok-table.ensures.none.0 2)
