use Rattle.lt_runner.proofs.RegisteredLaws.{seats_ask}
use Rattle.lt_runner.proofs.laws.seats_ask.Goals as goal

pub returns : goal.returns
returns c = seats_ask
