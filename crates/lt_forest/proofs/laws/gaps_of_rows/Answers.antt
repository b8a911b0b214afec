use Rattle.lt_forest.proofs.PublicLaws.{rows_have_one_gap, left_childs_gap, right_childs_gap, seen_is_within}
use Rattle.lt_forest.proofs.laws.gaps_of_rows.Goals as goal

pub returns : goal.returns
returns c = record {
  one = rows_have_one_gap;
  left = left_childs_gap;
  right = right_childs_gap;
  seen = seen_is_within;
}
