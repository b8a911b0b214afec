use Rattle.lt_rows.specs.Handles.{knows}
use Rattle.lt_tree.proofs.ViewLaws.{tree_row, seized_row}
use Rattle.lt_tree.proofs.prepare.try_prepare.Goals as goal

pub seize-requires-clause-row : goal.seize-requires-clause-row
seize-requires-clause-row c = (tree_row c.args.table.now.plan c.args.tree c.requires.tree, c.requires.none c.args.tree)

pub load_row-image-requires-clause-row : goal.load_row-image-requires-clause-row
load_row-image-requires-clause-row c =
    let r = seized_row c.args.tree (knows c.args.pass) (knows c.seize.new.pass) c.in-Taken.ensures.seized in
    (r.0, r.1)
