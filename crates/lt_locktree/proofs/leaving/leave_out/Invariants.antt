use Rattle.lt_locktree.proofs.LeavingLaws.{LeavesSome}
use Rattle.lt_locktree.proofs.leaving.leave_out.Given as goal

abbrev pub invariant-loop-i : goal.invariant-loop-i
invariant-loop-i l = LeavesSome l.txn l.range l.part.rows.items l.part.hangs.items l.i l.rows.items l.hangs.items l.ahead l.gone.items
