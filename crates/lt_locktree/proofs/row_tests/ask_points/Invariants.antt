use Rattle.lt_locktree.specs.Calls.{StaysOf}
use Rattle.lt_locktree.proofs.row_tests.ask_points.Given as goal

-- the pass stays of the table
abbrev pub invariant-loop-n : goal.invariant-loop-n
invariant-loop-n l = StaysOf l.table l.fn.pass l.pass
