use Rattle.lt_live.proofs.ToldLaws.{told_live}
use Rattle.lt_live.proofs.laws.told_live.Goals as goal

pub returns : goal.returns
returns c = told_live
