use Rattle.std.proofs.Common.{◌<◌, sym, subst}
use Rattle.lt_rows.specs.declared.row_plan.RowPlan.{RowPlan}
use Rattle.lt_rows.specs.Handles.{knows}
use Rattle.lt_tree.proofs.ReleaseLaws.{locked_backs}
use Rattle.lt_tree.proofs.locked.gather_rest.Goals as goal

pub put_part-requires-clause-backs : goal.put_part-requires-clause-backs
put_part-requires-clause-backs c =
    locked_backs (knows c.gather.new.pass) c.args.tree c.args.asked.now c.args.here c.gather.new.part.rows.items
    c.gather.new.part.hangs.items c.gather.ensures.locked
    (subst (λ (p : RowPlan). c.args.tree < p.trees) (sym c.gather.ensures.of.0.1) c.requires.tree)
