use Rattle.lt_forest.proofs.PublicLaws.{side_decides, side_shows_granted, side_shows_held, side_shows_free, side_shows_who}
use Rattle.lt_forest.proofs.laws.deeds_beside_a_row.Goals as goal

pub returns : goal.returns
returns c = record {
  decides = side_decides;
  granted = side_shows_granted;
  held = side_shows_held;
  free = side_shows_free;
  who = side_shows_who;
}
