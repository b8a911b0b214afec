use Rattle.lt_rows.proofs.StepLaws.{committed_row_has_image, settled_row_has_image, unplanned_row_keeps_gap}
use Rattle.lt_rows.proofs.laws.rows_after_a_plan.Goals as goal

pub returns : goal.returns
returns c = record {
  committed = committed_row_has_image;
  settled = settled_row_has_image;
  unplanned = unplanned_row_keeps_gap;
}
