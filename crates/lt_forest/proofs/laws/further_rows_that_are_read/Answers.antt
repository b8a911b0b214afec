use Rattle.lt_forest.proofs.PublicLaws.{read_run_is_further, read_pool_is_further, held_part_is_further}
use Rattle.lt_forest.proofs.laws.further_rows_that_are_read.Goals as goal

pub returns : goal.returns
returns c = record {
  run = read_run_is_further;
  pool = read_pool_is_further;
  part = held_part_is_further;
}
