use Rattle.std.proofs.Common.{[], ap, ◌∙◌, arith}
use Rattle.lt_rows.specs.declared.view.View.{View}
use Rattle.lt_rows.specs.Plan.{with_marks}
use Rattle.lt_rows.specs.Views.{row_at}
use Rattle.lt_tree.proofs.NewPasses.{both_new}
use Rattle.lt_chain.proofs.tests.both.Goals as goal

pub returns-clause-rights : goal.returns-clause-rights
returns-clause-rights c =
    let b = both_new c.in_ok-table.table (with_marks c.args.plan.now []) c.in_ok-table.passes.items c.pop.new.self.items c.pop-2.new.self.items
    c.in-Some-pop.one c.in-Some.two
    c.in_ok-table.ensures.table c.requires.plan.1 c.in_ok-table.ensures.passes c.in-Some.ensures.items c.in-Some-pop.ensures.items in
    let all = b.rights in
    let none = b.none in
    let left = c.share-note.ensures.pass.2 in
    let given = c.share-note.ensures.note.1 in
    let more = c.learn.ensures.pass.2 in
    (omega arith, omega arith)

pub returns-clause-none : goal.returns-clause-none
returns-clause-none c =
    let b = both_new c.in_ok-table.table (with_marks c.args.plan.now []) c.in_ok-table.passes.items c.pop.new.self.items c.pop-2.new.self.items
    c.in-Some-pop.one c.in-Some.two
    c.in_ok-table.ensures.table c.requires.plan.1 c.in_ok-table.ensures.passes c.in-Some.ensures.items c.in-Some-pop.ensures.items in (
      λ r. ap (λ (v : View). row_at v r) c.share-note.ensures.left ∙ b.holds r,
      λ r. ap (λ (v : View). row_at v r) c.learn.ensures.learned ∙ b.holds_too r,
    )
