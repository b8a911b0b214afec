use Rattle.lt_runner.proofs.StartsCostLaws.{starts_cost}
use Rattle.lt_runner.proofs.laws.starts_are_steps.Goals as goal

pub returns : goal.returns
returns c = starts_cost
