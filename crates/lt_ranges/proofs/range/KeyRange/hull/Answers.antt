use Rattle.lt_ranges.proofs.IntervalLaws.{hull_ordered}
use Rattle.lt_ranges.proofs.range.KeyRange.hull.Goals as goal

pub invariant_of-result : goal.invariant_of-result
invariant_of-result c = rw (c.lesser.ensures, c.greater.ensures) (hull_ordered _ _ c.self.invariant c.other.invariant)
