use Rattle.lt_rows.specs.Handles.{knows, IsPassOf, IsSamePass}
use Rattle.lt_tree.specs.States.{OnlyMet}
use Rattle.lt_tree.proofs.seize.seize.Given as goal

abbrev pub invariant-loop-turns : goal.invariant-loop-turns
invariant-loop-turns l = IsPassOf l.table l.pass × IsSamePass l.initial.pass l.pass × OnlyMet (knows l.initial.pass) (knows l.pass)
