use Rattle.std.proofs.Common.{◌-◌, vec_len}
use Rattle.lt_rows.specs.LastWords.{nodes_in}
use Rattle.lt_rows.specs.Walks.{InChain}
use Rattle.lt_rows.proofs.left.chain_rows.Given as goal

abbrev pub invariant-loop-link : goal.invariant-loop-link
invariant-loop-link l = InChain (nodes_in l.last) l.last.rows l.first l.link l.rows.items

abbrev pub decreases-loop-link : goal.decreases-loop-link
decreases-loop-link l = l.last.rows - vec_len l.rows
