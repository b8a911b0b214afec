use Rattle.lt_forest.proofs.PublicLaws.{trees_are_ordered, replaced_is_in_order}
use Rattle.lt_forest.proofs.laws.order_of_trees.Goals as goal

pub returns : goal.returns
returns c = record {
  forest = trees_are_ordered;
  replaced = replaced_is_in_order;
}
