use Rattle.lt_trace.proofs.LengthLaws.{first_bytes_decide, traces_are_short}
use Rattle.lt_trace.proofs.laws.first_bytes_decide.Goals as goal

pub returns-clause-trace : goal.returns-clause-trace
returns-clause-trace c = traces_are_short

pub returns-clause-fault : goal.returns-clause-fault
returns-clause-fault c = first_bytes_decide
