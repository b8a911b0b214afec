use Rattle.lt_script.proofs.FaultLaws.{one_script}
use Rattle.lt_script.proofs.laws.one_script.Goals as goal

pub returns : goal.returns
returns c = one_script
