use Rattle.std.proofs.Common.{◌≡◌}
use Rattle.lt_manager.specs.Views.{view_of, IsPassOfTable}
use Rattle.lt_manager.proofs.history_tests.call_all.Given as goal

-- the pass stays of the table, with its number and its rights
abbrev pub invariant-loop-number : goal.invariant-loop-number
invariant-loop-number l = record {
  of : IsPassOfTable l.yard.tree l.pass;
  number : (view_of l.pass).number ≡ (view_of l.fn.pass).number;
  rights : (view_of l.pass).rights ≡ (view_of l.fn.pass).rights;
}
