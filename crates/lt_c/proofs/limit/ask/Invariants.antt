use Rattle.std.proofs.Common.{◌≤◌}
use Rattle.lt_locktree.specs.Calls.{sees, StaysOf}
use Rattle.lt_c.specs.Limit.{AreJoined}
use Rattle.lt_c.proofs.limit.ask.Given as goal

-- the trees below the next are joined
abbrev pub invariant-loop-next : goal.invariant-loop-next
invariant-loop-next l = record {
  of : StaysOf l.table l.fn.pass l.pass;
  first : 1 ≤ l.next;
  joined : AreJoined (sees l.fn.pass) (sees l.pass) l.txn l.next;
}
