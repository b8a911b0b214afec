use Rattle.lt_crew.proofs.StandLaws.{caller_round}
use Rattle.lt_crew.proofs.laws.callers_turn.Goals as goal

pub returns : goal.returns
returns c = caller_round
