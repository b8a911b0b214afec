use Rattle.std.proofs.Common.{ap, ◌∙◌, arith}
use Rattle.std.proofs.lemmas.List.{take_all}
use Rattle.lt_seq.specs.Passes.{held_from}
use Rattle.lt_rows.proofs.LeftLaws.{one_more_tree}
use Rattle.lt_rows.proofs.left.left_of.Goals as goal

pub loop-tree-preserved : goal.loop-tree-preserved
loop-tree-preserved c state end =
    let size = end.stands.size in
    one_more_tree state c.loop-tree.tree c.loop-tree.left.items c.add_left.new.left.items (omega arith) (c.loop-tree.invariant state end) (c.in_ok-add_left.ensures state end)

pub returns : goal.returns
returns c state end =
    let size = end.stands.size in
    c.loop-tree.invariant state end ∙ ap (held_from 0) (take_all c.loop-tree.tree state (omega arith))
