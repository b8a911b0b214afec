use Rattle.std.proofs.Common.{sym, ◌∙◌}
use Rattle.lt_rows.specs.Handles.{knows}
use Rattle.lt_rows.proofs.Loops.{row_below}
use Rattle.lt_rows.proofs.table.RowTable.put.Goals as goal

pub put-requires-clause-row : goal.put-requires-clause-row
put-requires-clause-row c =
    row_below (knows c.args.pass.now) c.args.row c.requires.settled.0 c.args.self.now.table.shared.key c.args.pass.now.wide (c.requires.of.1 ∙ sym c.args.self.now.sized.1) c.requires.settled.1
