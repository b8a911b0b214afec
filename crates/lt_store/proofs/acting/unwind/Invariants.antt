use Rattle.std.proofs.Common.{◌≡◌, ◌≤◌, length, drop}
use Rattle.lt_store.specs.Undoing.{unwound}
use Rattle.lt_store.proofs.acting.unwind.Given as goal

-- those behind are undone
abbrev pub invariant-loop-left : goal.invariant-loop-left
invariant-loop-left l = record {
  within : l.left ≤ length l.undo;
  rows : l.rows ≡ unwound l.fn.rows (drop l.left l.undo);
}

abbrev pub decreases-loop-left : goal.decreases-loop-left
decreases-loop-left l = l.left
