use Rattle.lt_locktree.proofs.GrantedRuns.{merged_ask_commits, put_in_ask_commits}
use Rattle.lt_locktree.proofs.laws.asks_are_granted.Goals as goal

pub returns-clause-merged : goal.returns-clause-merged
returns-clause-merged c = merged_ask_commits

pub returns-clause-put_in : goal.returns-clause-put_in
returns-clause-put_in c = put_in_ask_commits
