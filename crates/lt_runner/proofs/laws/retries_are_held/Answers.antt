use Rattle.lt_runner.proofs.RetriesLaws.{retries_are_held}
use Rattle.lt_runner.proofs.laws.retries_are_held.Goals as goal

pub returns : goal.returns
returns c = retries_are_held
