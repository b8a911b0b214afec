use Rattle.lt_rows.proofs.LessonLaws.{history_is_legal, anchor_shows_mode, no_link_shows_no_pairs, pool_names_no_gapped_row}
use Rattle.lt_rows.proofs.laws.anchors_that_are_read.Goals as goal

pub returns : goal.returns
returns c = record {
  history = history_is_legal;
  mode = anchor_shows_mode;
  empty = no_link_shows_no_pairs;
  pool = pool_names_no_gapped_row;
}
