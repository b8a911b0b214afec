use Rattle.lt_locktree.proofs.JoinPlans.{join_plan_commits}
use Rattle.lt_locktree.proofs.laws.plans_of_joins.Goals as goal

pub returns : goal.returns
returns c = join_plan_commits
