use Rattle.lt_forest.proofs.PublicLaws.{visit_leaves_out_none, visited_is_closed, closed_part_has_all, part_shows_pairs, whole_part_shows_all, empty_tree_has_none}
use Rattle.lt_forest.proofs.laws.closed_parts.Goals as goal

pub returns : goal.returns
returns c = record {
  visited = visit_leaves_out_none;
  closed = visited_is_closed;
  all = closed_part_has_all;
  shown = part_shows_pairs;
  whole = whole_part_shows_all;
  empty = empty_tree_has_none;
}
