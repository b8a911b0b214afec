use Rattle.lt_forest.proofs.PublicLaws.{plan_serves_deed, plan_serves_layout, plan_serves_replacement}
use Rattle.lt_forest.proofs.laws.plans_for_trees.Goals as goal

pub returns : goal.returns
returns c = record {
  deed = plan_serves_deed;
  layout = plan_serves_layout;
  replaced = plan_serves_replacement;
}
