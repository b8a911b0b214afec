use Rattle.lt_forest.proofs.PublicLaws.{owner_is_alone}
use Rattle.lt_forest.proofs.laws.owner_of_a_buffer.Goals as goal

pub returns : goal.returns
returns c = owner_is_alone
