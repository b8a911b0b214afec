use Rattle.lt_runner.proofs.SettlesLaws.{settles_one}
use Rattle.lt_runner.proofs.laws.sweeps_settle_one.Goals as goal

pub returns : goal.returns
returns c = settles_one
