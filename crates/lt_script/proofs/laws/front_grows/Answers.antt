use Rattle.lt_script.proofs.GrammarLaws.{front_more}
use Rattle.lt_script.proofs.laws.front_grows.Goals as goal

pub returns : goal.returns
returns c = front_more
