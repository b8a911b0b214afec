use Rattle.lt_locktree.proofs.JoinCalls.{join_is_made}
use Rattle.lt_locktree.proofs.laws.joins_are_answers.Goals as goal

pub returns : goal.returns
returns c = join_is_made
