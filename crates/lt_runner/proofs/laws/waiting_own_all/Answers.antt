use Rattle.lt_runner.proofs.WaitingOwnLaws.{waiting_own_all}
use Rattle.lt_runner.proofs.laws.waiting_own_all.Goals as goal

pub returns : goal.returns
returns c = waiting_own_all
