use Rattle.std.proofs.Common.{◌≡◌, ◌++◌, drop}
use Rattle.lt_seq.specs.Table.{held_in}
use Rattle.lt_seq.proofs.pairs.add_held.Given as goal

-- those put, and then those left
abbrev pub invariant-loop-pair : goal.invariant-loop-pair
invariant-loop-pair l = l.left.items ++ held_in l.tree (drop l.pair-index l.pairs) ≡ l.fn.left.items ++ held_in l.tree l.pairs
