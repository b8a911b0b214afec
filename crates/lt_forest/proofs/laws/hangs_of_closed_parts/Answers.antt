use Rattle.lt_forest.proofs.PublicLaws.{none_hangs_between, none_hangs_there, reached_are_not_aside, closed_is_visited, aside_is_closed, overlapping_run_hangs_none, free_place_is_there}
use Rattle.lt_forest.proofs.laws.hangs_of_closed_parts.Goals as goal

pub returns : goal.returns
returns c = record {
  between = none_hangs_between;
  there = none_hangs_there;
  reached = reached_are_not_aside;
  visited = closed_is_visited;
  aside = aside_is_closed;
  run = overlapping_run_hangs_none;
  place = free_place_is_there;
}
