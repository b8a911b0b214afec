use Rattle.std.proofs.Common.{take}
use Rattle.lt_chain.proofs.FoldOrder.{IsLeast}
use Rattle.lt_chain.proofs.pairs.granted_by_left_ends.Given as goal

-- the pairs of the ranges so far
abbrev pub invariant-loop-range : goal.invariant-loop-range
invariant-loop-range l = IsLeast l.txn (take l.range-index l.range-items) l.pairs.items
