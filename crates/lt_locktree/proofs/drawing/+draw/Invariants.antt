-- Each half has fewer rows.
use Rattle.std.proofs.Common.{length}
use Rattle.lt_locktree.proofs.drawing.+draw.Given as goal

abbrev pub decreases-draw : goal.decreases-draw
decreases-draw l = length l.rows.now
