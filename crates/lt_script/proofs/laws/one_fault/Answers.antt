use Rattle.lt_script.proofs.FaultLaws.{one_fault}
use Rattle.lt_script.proofs.laws.one_fault.Goals as goal

pub returns : goal.returns
returns c = one_fault
