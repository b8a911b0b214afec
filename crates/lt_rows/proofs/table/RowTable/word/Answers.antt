use Rattle.std.proofs.Common.{◌≡◌, ◌<◌, sym, ◌∙◌}
use Rattle.lt_rows.specs.Views.{rows_of}
use Rattle.lt_rows.specs.declared.view.View.{View}
use Rattle.lt_rows.specs.Handles.{knows}
use Rattle.lt_rows.proofs.Loops.{row_below}
use Rattle.lt_rows.proofs.table.RowTable.word.Goals as goal

pub load_word-requires-clause-row : goal.load_word-requires-clause-row
load_word-requires-clause-row c =
    let v : View = knows c.args.pass.now in
    let less : c.args.row < rows_of c.args.self.now.table.shared.key = row_below v c.args.row c.requires.row.0 c.args.self.now.table.shared.key c.args.pass.now.wide (c.requires.of.1 ∙ sym c.args.self.now.sized.1) c.requires.row.1 in
    (less, c.requires.place, c.requires.row)
