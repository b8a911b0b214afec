use Rattle.std.proofs.Common.{rules, ℤ, [], ◌/◌, length, ap, ◌∙◌, subst, sym, w64}
use Rattle.std.proofs.lemmas.Int.{to_z-of_z}
use Rattle.lt_rows.specs.declared.row_plan.RowPlan.{RowPlan}
use Rattle.lt_rows.specs.declared.view.View.{View}
use Rattle.lt_rows.specs.Views.{rows_of}
use Rattle.lt_rows.specs.Handles.{knows, Shows}
use Rattle.lt_rows.proofs.Wide.{still_wide}
use Rattle.lt_rows.proofs.LessonLaws.{commit_is_legal}
use Rattle.lt_rows.specs.Lawful.{IsCommit}
use Rattle.lt_rows.proofs.table.RowTable.commit.Goals as goal

pub commit-requires-clause-lawful : goal.commit-requires-clause-lawful
commit-requires-clause-lawful c =
    let same = c.args.self.now.sized.1 in
    let change = to_z-of_z w64 c.args.change c.ranges.change in
    subst (λ (p : RowPlan × ℤ). IsCommit p.0 (knows c.args.pass.now) c.args.event.now c.args.plan.now p.1) (λ j. (sym same j, sym change j)) c.requires.lawful

pub invariant_of-pass : goal.invariant_of-pass
invariant_of-pass c =
    let v : View = knows c.args.pass.now in
    let is = c.commit.ensures.told.1.0 in
    let was = c.args.pass.now.numbered in
    record {
      numbered = (ap (λ (u : View). u.mark) is ∙ was.0, ap (λ (u : View). u.numbers) is ∙ was.1, ap (λ (u : View). u.rights) is ∙ was.2, c.commit.ensures.of.1 ∙ was.3);
      wide = ap (λ (u : View). length u.held) is ∙ (still_wide v c.args.plan.now [] ∙ (c.args.pass.now.wide ∙ ap (λ (u : View). rows_of u.plan) (sym is)));
    }

pub returns-clause-made : goal.returns-clause-made
returns-clause-made c =
    let v : View = knows c.args.pass.now in
    let told = c.commit.ensures.told in
    let shows : Shows v told.0 (c.commit.result / 16777216) = search rules in
    let lawful : IsCommit v.plan v c.args.event.now c.args.plan.now c.args.change = subst (λ (k : RowPlan). IsCommit k v c.args.event.now c.args.plan.now c.args.change) (sym c.requires.of.1) c.requires.lawful in
    (told.0, shows, told.1.0, λ mark. commit_is_legal v told.0 c.args.event.now c.args.plan.now c.args.change told.2.3 mark lawful)
