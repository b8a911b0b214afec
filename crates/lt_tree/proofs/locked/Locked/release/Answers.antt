use Rattle.std.proofs.Common.{◌<◌, sym, subst}
use Rattle.lt_rows.specs.declared.row_plan.RowPlan.{RowPlan}
use Rattle.lt_rows.specs.Handles.{knows}
use Rattle.lt_tree.proofs.ReleaseLaws.{locked_backs}
use Rattle.lt_tree.proofs.locked.Locked.release.Goals as goal

pub put_held-requires-clause-backs : goal.put_held-requires-clause-backs
put_held-requires-clause-backs c =
    locked_backs (knows c.args.self.pass) c.args.self.tree c.args.self.asked c.args.self.held c.args.self.part.rows.items
    c.args.self.part.hangs.items c.requires.locked
    (subst (λ (p : RowPlan). c.args.self.tree < p.trees) (sym c.args.self.of.0.1) c.args.self.of.2)
