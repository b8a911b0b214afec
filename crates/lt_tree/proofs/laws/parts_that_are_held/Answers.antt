use Rattle.lt_tree.proofs.PartLaws.{locked_is_part, locked_is_closed, locked_anchor_is_top}
use Rattle.lt_tree.proofs.laws.parts_that_are_held.Goals as goal

pub returns : goal.returns
returns c = record {
  part = locked_is_part;
  closed = locked_is_closed;
  anchor = locked_anchor_is_top;
}
