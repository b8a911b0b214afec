use Rattle.lt_runner.proofs.RegisteredLaws.{registries_stay}
use Rattle.lt_runner.proofs.laws.registries_stay.Goals as goal

pub returns : goal.returns
returns c = registries_stay
