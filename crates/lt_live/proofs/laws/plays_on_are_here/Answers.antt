use Rattle.lt_live.proofs.LiveLaws.{plays_here}
use Rattle.lt_live.proofs.laws.plays_on_are_here.Goals as goal

pub returns : goal.returns
returns c = plays_here
