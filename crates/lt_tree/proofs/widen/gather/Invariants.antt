use Rattle.std.proofs.Common.{◌+◌, ◌-◌, ◌*◌, ◌≤◌, length, None}
use Rattle.lt_rows.specs.Handles.{knows, IsPassOf, IsSamePass}
use Rattle.lt_tree.specs.States.{OnlyRows, KeepsRows}
use Rattle.lt_tree.specs.Descents.{free_rows}
use Rattle.lt_tree.specs.Gathers.{IsLocked, Passed}
use Rattle.lt_tree.proofs.widen.gather.Given as goal

abbrev pub invariant-loop-at : goal.invariant-loop-at
invariant-loop-at l =
    IsPassOf l.table l.pass × IsSamePass l.initial.pass l.pass × OnlyRows (knows l.initial.pass) (knows l.pass)
    × IsLocked (knows l.pass) l.tree l.asked l.here l.part.rows.items l.part.hangs.items
    × Passed l.asked None l.part.rows.items l.part.hangs.items l.at × (l.at ≤ length l.part.hangs.items)
    × KeepsRows (knows l.initial.pass) (knows l.pass)

abbrev pub decreases-loop-at : goal.decreases-loop-at
decreases-loop-at l = 2 * free_rows (knows l.pass).held + (length l.part.hangs.items - l.at)
