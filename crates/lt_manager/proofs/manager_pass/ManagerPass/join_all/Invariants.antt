use Rattle.std.proofs.Common.{◌≤◌}
use Rattle.lt_locktree.specs.Calls.{StaysOf}
use Rattle.lt_manager.specs.Views.{view_of}
use Rattle.lt_manager.specs.Behind.{JoinedBehind}
use Rattle.lt_manager.proofs.manager_pass.ManagerPass.join_all.Given as goal

abbrev pub invariant-loop-tree : goal.invariant-loop-tree
invariant-loop-tree l = record {
  of : StaysOf l.table l.fn.self.pass l.self.pass;
  first : 1 ≤ l.tree;
  joined : JoinedBehind l.fn.self (view_of l.self) l.txn l.tree;
}
