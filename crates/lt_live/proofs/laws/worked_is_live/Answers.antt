use Rattle.lt_live.proofs.CloseLaws.{worked_is_live}
use Rattle.lt_live.proofs.laws.worked_is_live.Goals as goal

pub returns : goal.returns
returns c = worked_is_live
