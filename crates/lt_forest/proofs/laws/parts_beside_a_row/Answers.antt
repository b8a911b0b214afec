use Rattle.lt_forest.proofs.PublicLaws.{side_is_part, held_side_is_part, side_adds_the_row, side_is_closed, side_loosens, side_has_same_rows, side_is_lawful}
use Rattle.lt_forest.proofs.laws.parts_beside_a_row.Goals as goal

pub returns : goal.returns
returns c = record {
  part = side_is_part;
  held = held_side_is_part;
  order = side_adds_the_row;
  closed = side_is_closed;
  loose = side_loosens;
  rows = side_has_same_rows;
  lawful = side_is_lawful;
}
