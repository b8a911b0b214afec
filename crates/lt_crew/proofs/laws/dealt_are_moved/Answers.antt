use Rattle.lt_crew.proofs.MovedLaws.{dealt_are_moved}
use Rattle.lt_crew.proofs.laws.dealt_are_moved.Goals as goal

pub returns : goal.returns
returns c = dealt_are_moved
