use Rattle.lt_forest.proofs.PublicLaws.{gap_rows_tree_mode, none_of_pool_is_read_back, empty_tree_is_read}
use Rattle.lt_forest.proofs.laws.trees_and_pools_that_are_read.Goals as goal

pub returns : goal.returns
returns c = record {
  gap = gap_rows_tree_mode;
  pool = none_of_pool_is_read_back;
  empty = empty_tree_is_read;
}
