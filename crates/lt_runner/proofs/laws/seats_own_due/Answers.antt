use Rattle.lt_runner.proofs.HoldLaws.{seats_own_due}
use Rattle.lt_runner.proofs.laws.seats_own_due.Goals as goal

pub returns : goal.returns
returns c = seats_own_due
