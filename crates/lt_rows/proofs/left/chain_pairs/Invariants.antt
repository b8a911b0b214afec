use Rattle.std.proofs.Common.{vec_len}
use Rattle.lt_rows.specs.LastWords.{nodes_in}
use Rattle.lt_rows.specs.Walks.{InGrants}
use Rattle.lt_rows.proofs.left.chain_pairs.Given as goal

abbrev pub invariant-loop-row : goal.invariant-loop-row
invariant-loop-row l = InGrants (nodes_in l.last) l.last.rows l.txn l.initial.rows.items l.rows.items l.pairs.items

abbrev pub decreases-loop-row : goal.decreases-loop-row
decreases-loop-row l = vec_len l.rows
