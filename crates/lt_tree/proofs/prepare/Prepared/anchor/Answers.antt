use Rattle.std.proofs.Common.{◌≡◌, ◌<◌, ap, sym, subst, arith}
use Rattle.lt_rows.specs.declared.row_plan.RowPlan.{RowPlan}
use Rattle.lt_rows.specs.Views.{rows_of}
use Rattle.lt_rows.specs.Handles.{knows}
use Rattle.lt_tree.proofs.AnchorLaws.{top_small, mode_shown}
use Rattle.lt_tree.proofs.prepare.Prepared.anchor.Goals as goal

pub overflow_cast-result : goal.overflow_cast-result
overflow_cast-result c =
    let lt = subst (λ (p : RowPlan). c.args.self.now.tree < p.trees) (sym c.args.self.now.of.1) c.args.self.now.prepared.1 in
    let small = top_small (knows c.args.self.now.pass) c.args.self.now.tree c.args.self.now.image c.args.self.now.prepared.2 lt c.args.self.now.taught in
    let few = c.args.self.now.table.now.sized.0.3 in
    let rows : rows_of (knows c.args.self.now.pass).plan ≡ rows_of c.args.self.now.table.now.plan = ap rows_of c.args.self.now.of.1 in
    let left = c.left.ensures in
    omega arith

pub returns-clause-mode : goal.returns-clause-mode
returns-clause-mode c = mode_shown c.args.self.now.image.words c.left.result c.owner.result c.owner.ensures
