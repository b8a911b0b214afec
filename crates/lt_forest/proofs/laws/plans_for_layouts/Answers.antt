use Rattle.lt_forest.proofs.PublicLaws.{same_order_lays, turn_lays_at_anchor, turn_lays_at_row}
use Rattle.lt_forest.proofs.laws.plans_for_layouts.Goals as goal

pub returns : goal.returns
returns c = record {
  order = same_order_lays;
  anchor = turn_lays_at_anchor;
  row = turn_lays_at_row;
}
