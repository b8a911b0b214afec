use Rattle.std.proofs.Common.{◌+◌, ◌-◌, ◌*◌, vec_len}
use Rattle.lt_rows.specs.LastWords.{nodes_in}
use Rattle.lt_rows.specs.Walks.{InTree}
use Rattle.lt_rows.proofs.left.add_tree.Given as goal

abbrev pub invariant-loop-link : goal.invariant-loop-link
invariant-loop-link l = InTree (nodes_in l.last) l.last.rows l.top l.tree l.initial.left.items l.link l.above.items l.left.items

-- each row is gone into once and seen once
abbrev pub decreases-loop-link : goal.decreases-loop-link
decreases-loop-link l = 2 * l.last.rows - (2 * (vec_len l.left - vec_len l.initial.left) + vec_len l.above)
