use Rattle.lt_forest.proofs.PublicLaws.{tree_rows_are_further, pool_rows_are_further, run_rows_are_further, taken_rows_are_further, part_rows_are_further}
use Rattle.lt_forest.proofs.laws.further_rows.Goals as goal

pub returns : goal.returns
returns c = record {
  tree = tree_rows_are_further;
  pool = pool_rows_are_further;
  run = run_rows_are_further;
  taken = taken_rows_are_further;
  part = part_rows_are_further;
}
