use Rattle.lt_rows.specs.Handles.{knows, IsPassOf, IsSamePass}
use Rattle.lt_tree.specs.States.{HoldsNone}
use Rattle.lt_locktree.proofs.stopped_tests.held_rows.Given as goal

-- the pass stays of the table, and holds no row between two reads
abbrev pub invariant-loop-row : goal.invariant-loop-row
invariant-loop-row l = record {
  of : IsPassOf l.table l.pass × IsSamePass l.fn.pass l.pass;
  none : HoldsNone (knows l.pass);
}
