use Rattle.std.proofs.Common.{arith}
use Rattle.lt_tree.proofs.StartLaws.{left_small, right_small}
use Rattle.lt_tree.proofs.part.begin.Goals as goal

pub overflow_cast-left : goal.overflow_cast-left
overflow_cast-left c =
    let less = left_small c.args.child.now c.in-Some.child c.left-left.result c.in-Some.is c.requires.small c.left-left.ensures in
    omega arith

pub overflow_cast-right : goal.overflow_cast-right
overflow_cast-right c =
    let less = right_small c.args.child.now c.in-Some.child c.right-right.result c.in-Some.is c.requires.small c.right-right.ensures in
    omega arith
