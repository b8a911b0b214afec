use Rattle.std.proofs.Common.{◌<◌, ◌+◌, ◌-◌, sym, subst, arith, ◌≡◌}
use Rattle.lt_rows.specs.declared.row_plan.RowPlan.{RowPlan}
use Rattle.lt_rows.specs.Views.{rows_of}
use Rattle.lt_rows.specs.Nodes.{node_of}
use Rattle.lt_rows.proofs.StepLaws.{taken_row_is_held}
use Rattle.lt_tree.specs.Turnings.{link_of}
use Rattle.lt_rows.specs.Handles.{knows}
use Rattle.lt_tree.proofs.DeeperLaws.{low_further, low_free}
use Rattle.lt_tree.proofs.turning.take_deeper.Goals as goal

pub overflow_cast-deeper : goal.overflow_cast-deeper
overflow_cast-deeper c =
    let few = c.args.table.now.sized.0.3 in
    let lt = subst (λ (p : RowPlan). c.args.tree < p.trees) (sym c.requires.of.1) c.requires.tree in
    let some = c.if-link-eq0.false in
    let is : link_of c.in_ok-side.side (node_of c.args.row.now.words) ≡ (c.link_on-link.result - 1) + 1 = let e = c.link_on-link.ensures in omega arith in
    let f = low_further (knows c.args.pass.now) c.args.tree c.args.asked.now c.args.here.now c.args.row.now c.requires.pair lt c.in_ok-side.side (c.link_on-link.result - 1) is in
    let less = subst (λ (p : RowPlan). c.link_on-link.result - 1 < rows_of p) c.requires.of.1 f.1 in
    omega arith

pub take-requires-clause-row : goal.take-requires-clause-row
take-requires-clause-row c =
    let lt = subst (λ (p : RowPlan). c.args.tree < p.trees) (sym c.requires.of.1) c.requires.tree in
    let some = c.if-link-eq0.false in
    let is : link_of c.in_ok-side.side (node_of c.args.row.now.words) ≡ (c.link_on-link.result - 1) + 1 = let e = c.link_on-link.ensures in omega arith in
    let f = low_further (knows c.args.pass.now) c.args.tree c.args.asked.now c.args.here.now c.args.row.now c.requires.pair lt c.in_ok-side.side (c.link_on-link.result - 1) is in (
      subst (λ (p : RowPlan). c.link_on-link.result - 1 < rows_of p) c.requires.of.1 f.1,
      low_free (knows c.args.pass.now) c.args.tree c.args.asked.now c.args.here.now c.args.row.now c.requires.pair lt c.in_ok-side.side (c.link_on-link.result - 1) is,
    )

pub load_row-row-requires-clause-row : goal.load_row-row-requires-clause-row
load_row-row-requires-clause-row c =
    let t = taken_row_is_held (c.link_on-link.result - 1) (knows c.args.pass.now) (knows c.take.new.pass) c.in-Taken.ensures.tried in
    (_, t.0)
