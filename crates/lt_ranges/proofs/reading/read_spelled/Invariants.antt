use Rattle.std.proofs.Common.{length}
use Rattle.lt_ranges.proofs.ReadSoFar.{HasRead}
use Rattle.lt_ranges.proofs.reading.read_spelled.Given as goal

-- how far the reading has come
abbrev pub invariant-loop-rest : goal.invariant-loop-rest
invariant-loop-rest l = HasRead l.text l.rest l.stored l.is_long

abbrev pub decreases-loop-rest : goal.decreases-loop-rest
decreases-loop-rest l = length l.rest
