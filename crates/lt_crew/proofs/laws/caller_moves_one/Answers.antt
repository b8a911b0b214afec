use Rattle.lt_crew.proofs.MovedLaws.{caller_moves_one}
use Rattle.lt_crew.proofs.laws.caller_moves_one.Goals as goal

pub returns : goal.returns
returns c = caller_moves_one
