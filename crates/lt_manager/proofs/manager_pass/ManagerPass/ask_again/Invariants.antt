use Rattle.lt_rows.specs.Plan.{setting_of}
use Rattle.lt_locktree.specs.Calls.{sees, StaysOf}
use Rattle.lt_manager.specs.Views.{view_of}
use Rattle.lt_manager.proofs.AgainLaws.{AsksOn}
use Rattle.lt_manager.proofs.manager_pass.ManagerPass.ask_again.Given as goal

abbrev pub invariant-loop : goal.invariant-loop
invariant-loop l = record {
  of : StaysOf l.table l.fn.self.pass l.self.pass;
  on : AsksOn (setting_of (sees l.fn.self.pass).plan) (view_of l.fn.self) (view_of l.self);
}
