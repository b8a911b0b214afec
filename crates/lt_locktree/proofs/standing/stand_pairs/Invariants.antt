use Rattle.std.proofs.Common.{◌≡◌, take}
use Rattle.lt_locktree.specs.EndingRows.{stood_in}
use Rattle.lt_locktree.proofs.standing.stand_pairs.Given as goal

abbrev pub invariant-loop-at : goal.invariant-loop-at
invariant-loop-at l = l.stood.items ≡ stood_in (take l.at l.rows) (take l.at l.pairs)
