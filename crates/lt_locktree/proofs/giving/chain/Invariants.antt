use Rattle.std.proofs.Common.{reverse, take}
use Rattle.lt_locktree.specs.Given.{Chains}
use Rattle.lt_locktree.proofs.giving.chain.Given as goal

abbrev pub invariant-loop-row : goal.invariant-loop-row
invariant-loop-row l = Chains l.initial.images.items l.images.items l.link (reverse (take l.row-index l.rows)) l.rest
