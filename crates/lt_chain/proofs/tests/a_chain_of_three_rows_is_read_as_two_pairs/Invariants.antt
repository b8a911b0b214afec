use Rattle.std.proofs.Common.{◌≡◌}
use Rattle.lt_rows.specs.Handles.{knows, IsPassOf}
use Rattle.lt_tree.specs.States.{HoldsNone}
use Rattle.lt_chain.proofs.tests.a_chain_of_three_rows_is_read_as_two_pairs.Given as goal

-- the pass stays of the table, with its right, and holds no row between two asks
abbrev pub invariant-loop-n : goal.invariant-loop-n
invariant-loop-n g l = record {
  of : IsPassOf l.table l.one;
  right : l.one.rights ≡ 1;
  none : HoldsNone (knows l.one);
}
