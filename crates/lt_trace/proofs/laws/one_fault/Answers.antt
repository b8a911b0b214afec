use Rattle.lt_trace.proofs.FaultLaws.{one_fault}
use Rattle.lt_trace.proofs.laws.one_fault.Goals as goal

pub returns : goal.returns
returns c = one_fault
