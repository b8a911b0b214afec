use Rattle.std.proofs.Common.{◌≡◌}
use Rattle.lt_rows.specs.Handles.{knows, IsSamePass}
use Rattle.lt_tree.specs.Descents.{free_rows}
use Rattle.lt_tree.specs.Gathers.{IsLocked, IsClosed}
use Rattle.lt_tree.specs.States.{OnlyRows}
use Rattle.lt_locktree.proofs.joining.widen_whole.Given as goal

abbrev pub invariant-loop-hang : goal.invariant-loop-hang
invariant-loop-hang l =
    IsSamePass l.initial.locked.pass l.locked.pass × OnlyRows (knows l.initial.locked.pass) (knows l.locked.pass)
    × ((l.locked.table ≡ l.initial.locked.table) × (l.locked.tree ≡ l.initial.locked.tree) × (l.locked.asked ≡ l.initial.locked.asked)
    × (l.locked.held ≡ l.initial.locked.held) × (l.locked.pool ≡ l.initial.locked.pool))
    × IsLocked (knows l.locked.pass) l.locked.tree l.locked.asked l.locked.held l.locked.part.rows.items l.locked.part.hangs.items
    × IsClosed l.locked.asked l.locked.part.rows.items l.locked.part.hangs.items

abbrev pub decreases-loop-hang : goal.decreases-loop-hang
decreases-loop-hang l = free_rows (knows l.locked.pass).held
