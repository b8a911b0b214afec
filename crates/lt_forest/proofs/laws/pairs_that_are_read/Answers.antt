use Rattle.lt_forest.proofs.PublicLaws.{held_part_shows_pairs, held_part_has_all, held_whole_shows_all, held_chain_shows_buffer}
use Rattle.lt_forest.proofs.laws.pairs_that_are_read.Goals as goal

pub returns : goal.returns
returns c = record {
  part = held_part_shows_pairs;
  closed = held_part_has_all;
  whole = held_whole_shows_all;
  chain = held_chain_shows_buffer;
}
