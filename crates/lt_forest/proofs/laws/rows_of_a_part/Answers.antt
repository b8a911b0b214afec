use Rattle.lt_forest.proofs.PublicLaws.{part_is_lawful, held_part_is_lawful, lawful_part_ascends, lawful_list_splits}
use Rattle.lt_forest.proofs.laws.rows_of_a_part.Goals as goal

pub returns : goal.returns
returns c = record {
  part = part_is_lawful;
  held = held_part_is_lawful;
  ascend = lawful_part_ascends;
  splits = lawful_list_splits;
}
