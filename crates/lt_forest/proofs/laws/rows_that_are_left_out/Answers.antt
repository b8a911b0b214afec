use Rattle.lt_forest.proofs.PublicLaws.{none_is_left_out, one_is_kept, one_is_left_out, left_out_loosens, left_out_is_freed, left_out_keeps_rows}
use Rattle.lt_forest.proofs.laws.rows_that_are_left_out.Goals as goal

pub returns : goal.returns
returns c = record {
  none = none_is_left_out;
  kept = one_is_kept;
  left_out = one_is_left_out;
  loose = left_out_loosens;
  freed = left_out_is_freed;
  rows = left_out_keeps_rows;
}
