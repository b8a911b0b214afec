use Rattle.lt_locktree.proofs.EndedPlans.{kept_plan_lays_out, given_plan_lays_out, taken_plan_lays_out}
use Rattle.lt_locktree.proofs.laws.plans_of_laid_out_buffers.Goals as goal

pub returns-clause-kept : goal.returns-clause-kept
returns-clause-kept c = kept_plan_lays_out

pub returns-clause-given : goal.returns-clause-given
returns-clause-given c = given_plan_lays_out

pub returns-clause-taken : goal.returns-clause-taken
returns-clause-taken c = taken_plan_lays_out
