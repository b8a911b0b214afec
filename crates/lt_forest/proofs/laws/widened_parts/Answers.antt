use Rattle.lt_forest.proofs.PublicLaws.{widened_is_part, widened_is_closed, held_widened_is_part, held_widened_is_closed}
use Rattle.lt_forest.proofs.laws.widened_parts.Goals as goal

pub returns : goal.returns
returns c = record {
  part = widened_is_part;
  closed = widened_is_closed;
  held_part = held_widened_is_part;
  held_closed = held_widened_is_closed;
}
