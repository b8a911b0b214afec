use Rattle.lt_runner.proofs.RetriesLaws.{retries_settle_one}
use Rattle.lt_runner.proofs.laws.retries_settle_one.Goals as goal

pub returns : goal.returns
returns c = retries_settle_one
