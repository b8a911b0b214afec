use Rattle.lt_forest.proofs.PublicLaws.{middle_decides, own_become_one}
use Rattle.lt_forest.proofs.laws.steps_on_a_part.Goals as goal

pub returns : goal.returns
returns c = record {
  middle = middle_decides;
  own = own_become_one;
}
