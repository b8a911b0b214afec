use Rattle.lt_locktree.proofs.RejoiningLaws.{JoinsSome}
use Rattle.lt_locktree.proofs.rejoining.rejoin.Given as goal

abbrev pub invariant-loop-i : goal.invariant-loop-i
invariant-loop-i l = JoinsSome l.marks l.rows l.i l.kept.items l.last l.gone.items
