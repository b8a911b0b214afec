use Rattle.lt_forest.proofs.PublicLaws.{part_gap_is_read, top_keeps_gap}
use Rattle.lt_forest.proofs.laws.gaps_of_a_new_part.Goals as goal

pub returns : goal.returns
returns c = record {
  read = part_gap_is_read;
  top = top_keeps_gap;
}
