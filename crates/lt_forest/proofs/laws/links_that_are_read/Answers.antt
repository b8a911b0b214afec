use Rattle.lt_forest.proofs.PublicLaws.{top_is_read, left_is_read, right_is_read, read_links_name_further, none_is_read_twice, none_is_read_back, pool_is_read_apart, vacant_is_read}
use Rattle.lt_forest.proofs.laws.links_that_are_read.Goals as goal

pub returns : goal.returns
returns c = record {
  top = top_is_read;
  left = left_is_read;
  right = right_is_read;
  further = read_links_name_further;
  apart = none_is_read_twice;
  back = none_is_read_back;
  pool_apart = pool_is_read_apart;
  vacant = vacant_is_read;
}
