use Rattle.std.proofs.Common.{◌≡◌, List, take}
use Rattle.lt_seq.specs.Table.{TreeState}
use Rattle.lt_seq.specs.Passes.{held_from}
use Rattle.lt_rows.specs.LastWords.{IsLastForest}
use Rattle.lt_rows.proofs.left.left_of.Given as goal

-- the pairs of the trees so far
abbrev pub invariant-loop-tree : goal.invariant-loop-tree
invariant-loop-tree l = (state : List TreeState) → IsLastForest l.plan l.last state → l.left.items ≡ held_from 0 (take l.tree state)
