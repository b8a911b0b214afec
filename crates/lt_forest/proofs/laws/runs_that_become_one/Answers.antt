use Rattle.lt_forest.proofs.PublicLaws.{span_may_merge, merged_run_loosens, put_in_loosens, rows_show_pairs, merged_run_is_granted, merged_run_keeps_rows, put_in_keeps_rows}
use Rattle.lt_forest.proofs.laws.runs_that_become_one.Goals as goal

pub returns : goal.returns
returns c = record {
  span = span_may_merge;
  merged = merged_run_loosens;
  put_in = put_in_loosens;
  pairs = rows_show_pairs;
  granted = merged_run_is_granted;
  merged_rows = merged_run_keeps_rows;
  put_in_rows = put_in_keeps_rows;
}
