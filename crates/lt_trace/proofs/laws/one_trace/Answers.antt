use Rattle.lt_trace.proofs.FaultLaws.{one_trace}
use Rattle.lt_trace.proofs.laws.one_trace.Goals as goal

pub returns : goal.returns
returns c = one_trace
