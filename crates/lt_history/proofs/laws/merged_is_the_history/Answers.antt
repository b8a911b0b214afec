use Rattle.lt_history.proofs.MergeLaws.{merged_is_history}
use Rattle.lt_history.proofs.laws.merged_is_the_history.Goals as goal

pub returns : goal.returns
returns c = merged_is_history
