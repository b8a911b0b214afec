use Rattle.lt_forest.proofs.PublicLaws.{part_is_replaced}
use Rattle.lt_forest.proofs.laws.part_is_replaced.Goals as goal

pub returns : goal.returns
returns c = part_is_replaced
