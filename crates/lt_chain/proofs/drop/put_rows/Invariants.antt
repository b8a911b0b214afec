use Rattle.std.proofs.Common.{◌≤◌, take, length}
use Rattle.lt_rows.specs.Handles.{knows, IsPassOf, IsSamePass}
use Rattle.lt_tree.specs.States.{OnlyHeld}
use Rattle.lt_tree.specs.Puttings.{Backs}
use Rattle.lt_chain.proofs.drop.put_rows.Given as goal

abbrev pub invariant-loop-at : goal.invariant-loop-at
invariant-loop-at l =
    IsPassOf l.table l.pass × IsSamePass l.initial.pass l.pass × OnlyHeld (knows l.initial.pass) (knows l.pass) × (l.at ≤ length l.rows)
    × Backs (knows l.pass) (take l.at l.rows)

abbrev pub decreases-loop-at : goal.decreases-loop-at
decreases-loop-at l = l.at
