use Rattle.lt_forest.proofs.PublicLaws.{gap_rows_are_linked, part_rows_are_linked, run_rows_are_linked, pool_rows_are_linked}
use Rattle.lt_forest.proofs.laws.rows_with_links.Goals as goal

pub returns : goal.returns
returns c = record {
  gap = gap_rows_are_linked;
  part = part_rows_are_linked;
  run = run_rows_are_linked;
  pool = pool_rows_are_linked;
}
