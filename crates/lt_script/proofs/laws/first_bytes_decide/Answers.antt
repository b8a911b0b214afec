use Rattle.lt_script.proofs.LengthLaws.{first_bytes_decide, scripts_are_short}
use Rattle.lt_script.proofs.laws.first_bytes_decide.Goals as goal

pub returns-clause-script : goal.returns-clause-script
returns-clause-script c = scripts_are_short

pub returns-clause-fault : goal.returns-clause-fault
returns-clause-fault c = first_bytes_decide
