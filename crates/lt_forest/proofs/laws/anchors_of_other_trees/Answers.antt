use Rattle.lt_forest.proofs.PublicLaws.{other_anchors_stay, plan_keeps_anchors, first_keeps_anchors, end_keeps_anchors, drop_keeps_anchors}
use Rattle.lt_forest.proofs.laws.anchors_of_other_trees.Goals as goal

pub returns : goal.returns
returns c = record {
  stay = other_anchors_stay;
  laid = plan_keeps_anchors;
  first = first_keeps_anchors;
  ends = end_keeps_anchors;
  dropped = drop_keeps_anchors;
}
