use Rattle.lt_rows.proofs.LessonLaws.{gapped_row_shows_range, part_shows_pairs_of_tree, closed_part_shows_all, whole_part_shows_tree, whole_chain_shows_buffer}
use Rattle.lt_rows.proofs.laws.pairs_that_are_read.Goals as goal

pub returns : goal.returns
returns c = record {
  range = gapped_row_shows_range;
  pairs = part_shows_pairs_of_tree;
  closed = closed_part_shows_all;
  tree = whole_part_shows_tree;
  buffer = whole_chain_shows_buffer;
}
