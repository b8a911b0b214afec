use Rattle.lt_forest.proofs.PublicLaws.{ends_are_hanging, ends_are_between, same_order_keeps}
use Rattle.lt_forest.proofs.laws.parts_in_key_order.Goals as goal

pub returns : goal.returns
returns c = record {
  hanging = ends_are_hanging;
  between = ends_are_between;
  same = same_order_keeps;
}
