use Rattle.std.proofs.Common.{◌≡◌}
use Rattle.lt_rows.specs.Handles.{knows, IsSamePass}
use Rattle.lt_tree.specs.Descents.{free_rows}
use Rattle.lt_tree.specs.Gathers.{IsLocked, IsClosed}
use Rattle.lt_tree.specs.States.{OnlyRows}
use Rattle.lt_locktree.proofs.leaving.leave_widened.Given as goal

abbrev pub invariant-loop-left : goal.invariant-loop-left
invariant-loop-left l =
    IsSamePass l.initial.locked.pass l.locked.pass × OnlyRows (knows l.initial.locked.pass) (knows l.locked.pass)
    × ((l.locked.table ≡ l.initial.locked.table) × (l.locked.tree ≡ l.initial.locked.tree) × (l.locked.asked ≡ l.initial.locked.asked)
    × (l.locked.held ≡ l.initial.locked.held) × (l.locked.pool ≡ l.initial.locked.pool))
    × IsLocked (knows l.locked.pass) l.locked.tree l.locked.asked l.locked.held l.locked.part.rows.items l.locked.part.hangs.items
    × IsClosed l.locked.asked l.locked.part.rows.items l.locked.part.hangs.items

abbrev pub decreases-loop-left : goal.decreases-loop-left
decreases-loop-left l = free_rows (knows l.locked.pass).held
