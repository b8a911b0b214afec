use Rattle.lt_trace.proofs.GrammarLaws.{front_more}
use Rattle.lt_trace.proofs.laws.front_grows.Goals as goal

pub returns : goal.returns
returns c = front_more
