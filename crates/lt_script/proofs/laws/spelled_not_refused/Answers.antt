use Rattle.lt_script.proofs.FaultLaws.{spelled_not_refused}
use Rattle.lt_script.proofs.laws.spelled_not_refused.Goals as goal

pub returns : goal.returns
returns c = spelled_not_refused
