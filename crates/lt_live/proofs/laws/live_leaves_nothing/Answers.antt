use Rattle.lt_live.proofs.NothingLaws.{live_leaves_nothing}
use Rattle.lt_live.proofs.laws.live_leaves_nothing.Goals as goal

pub returns : goal.returns
returns c = live_leaves_nothing
