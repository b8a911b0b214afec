use Rattle.std.proofs.Common.{arith}
use Rattle.std.proofs.lemmas.Grind.{common_steps}
use Rattle.lt_seq.proofs.seq_trees.SeqTrees.used.Goals as goal

pub overflow_add-used : goal.overflow_add-used
overflow_add-used c = grind (arith, common_steps, c.requires, c.loop-tree.invariant)
