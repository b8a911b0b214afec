-- Each half has fewer rows.
use Rattle.std.proofs.Common.{length}
use Rattle.lt_forest.proofs.layout.+place.Given as goal

abbrev pub decreases-place : goal.decreases-place
decreases-place l = length l.rows.now
