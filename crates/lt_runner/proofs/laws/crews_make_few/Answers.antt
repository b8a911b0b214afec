use Rattle.lt_runner.proofs.CrewCostLaws.{crews_make_few}
use Rattle.lt_runner.proofs.laws.crews_make_few.Goals as goal

pub returns : goal.returns
returns c = crews_make_few
