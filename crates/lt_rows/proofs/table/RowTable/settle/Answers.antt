use Rattle.std.proofs.Common.{length, ap, ◌∙◌, sym}
use Rattle.lt_rows.specs.declared.view.View.{View}
use Rattle.lt_rows.specs.Views.{rows_of}
use Rattle.lt_rows.specs.Gaps.{new_gaps}
use Rattle.lt_rows.specs.Handles.{knows}
use Rattle.lt_rows.proofs.Wide.{still_wide}
use Rattle.lt_rows.proofs.table.RowTable.settle.Goals as goal

pub invariant_of-pass : goal.invariant_of-pass
invariant_of-pass c =
    let v : View = knows c.args.pass.now in
    let is = c.settle.ensures.told.1.0 in
    let was = c.args.pass.now.numbered in
    record {
      numbered = (ap (λ (u : View). u.mark) is ∙ was.0, ap (λ (u : View). u.numbers) is ∙ was.1, ap (λ (u : View). u.rights) is ∙ was.2, c.settle.ensures.of.1 ∙ was.3);
      wide = ap (λ (u : View). length u.held) is ∙ (still_wide v c.args.plan.now (new_gaps v c.args.plan.now) ∙ (c.args.pass.now.wide ∙ ap (λ (u : View). rows_of u.plan) (sym is)));
    }
