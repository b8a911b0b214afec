use Rattle.lt_forest.proofs.PublicLaws.{leaving_out_loosens, merging_loosens, part_widens, placed_shows}
use Rattle.lt_forest.proofs.laws.plans_in_key_order.Goals as goal

pub returns : goal.returns
returns c = record {
  left_out = leaving_out_loosens;
  merged = merging_loosens;
  widened = part_widens;
  placed = placed_shows;
}
