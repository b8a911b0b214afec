use Rattle.lt_locktree.proofs.PlanLaws.{grown_plan_commits, put_in_plan_commits}
use Rattle.lt_locktree.proofs.MergedPlans.{merged_plan_commits}
use Rattle.lt_locktree.proofs.laws.plans_of_granted_asks.Goals as goal

pub returns-clause-grown : goal.returns-clause-grown
returns-clause-grown c = grown_plan_commits

pub returns-clause-put_in : goal.returns-clause-put_in
returns-clause-put_in c = put_in_plan_commits

pub returns-clause-merged : goal.returns-clause-merged
returns-clause-merged c = merged_plan_commits
