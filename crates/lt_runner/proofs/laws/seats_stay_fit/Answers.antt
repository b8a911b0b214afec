use Rattle.lt_runner.proofs.RegisteredLaws.{seats_stay_fit}
use Rattle.lt_runner.proofs.laws.seats_stay_fit.Goals as goal

pub returns : goal.returns
returns c = seats_stay_fit
