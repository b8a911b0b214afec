use Rattle.lt_rows.specs.Handles.{knows}
use Rattle.lt_locktree.proofs.JoinNotes.{join_on}
use Rattle.lt_locktree.proofs.escalate.join_prepared.Goals as goal

pub returns-in-Ok-join_tree-clause-made : goal.returns-in-Ok-join_tree-clause-made
returns-in-Ok-join_tree-clause-made c =
    join_on (knows c.args.prepared.pass) (knows c.in-Ok.locked.pass) (knows c.in-Ok-join_tree.pass) c.args.asking.now c.in-Ok-join_tree.note
    c.in-Ok.ensures.same.1 c.in-Ok-join_tree.ensures.made
