use Rattle.lt_forest.proofs.PublicLaws.{top_is_seen, left_is_seen, right_is_seen}
use Rattle.lt_forest.proofs.laws.gaps_on_the_way.Goals as goal

pub returns : goal.returns
returns c = record {
  top = top_is_seen;
  left = left_is_seen;
  right = right_is_seen;
}
