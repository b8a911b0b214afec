use Rattle.lt_locktree.specs.Calls.{IsOfTable}
use Rattle.lt_locktree.proofs.row_tests.a_join_of_two_neighbours_gives_a_row_back.Given as goal

-- the pass stays of the table
abbrev pub invariant-loop-n : goal.invariant-loop-n
invariant-loop-n g l = IsOfTable l.table l.pass
