use Rattle.lt_locktree.proofs.FreePlans.{free_plan_commits}
use Rattle.lt_locktree.proofs.laws.plans_of_frees.Goals as goal

pub returns : goal.returns
returns c = free_plan_commits
