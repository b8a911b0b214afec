use Rattle.lt_forest.proofs.PublicLaws.{rows_add_up, vacant_is_there, opening_is_forest}
use Rattle.lt_forest.proofs.laws.rows_in_all.Goals as goal

pub returns : goal.returns
returns c = record {
  all = rows_add_up;
  vacant = vacant_is_there;
  opening = opening_is_forest;
}
