use Rattle.lt_ranges.proofs.IntervalLaws.{hull_least}
use Rattle.lt_ranges.proofs.laws.ranges_by_their_keys.Goals as goal

pub returns-clause-hull : goal.returns-clause-hull
returns-clause-hull c = hull_least
