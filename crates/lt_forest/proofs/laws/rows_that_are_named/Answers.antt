use Rattle.lt_forest.proofs.PublicLaws.{hangs_name_others, held_hangs_name_others, cut_rows_are_named, held_rows_are_named}
use Rattle.lt_forest.proofs.laws.rows_that_are_named.Goals as goal

pub returns : goal.returns
returns c = record {
  hangs = hangs_name_others;
  held_hangs = held_hangs_name_others;
  rows = cut_rows_are_named;
  held_rows = held_rows_are_named;
}
