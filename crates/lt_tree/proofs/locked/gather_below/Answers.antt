use Rattle.std.proofs.Common.{◌<◌, ◌∙◌, List, ℕ, sym, subst}
use Rattle.std.proofs.lemmas.Result.{IfOk-weaker}
use Rattle.lt_rows.specs.declared.row_plan.RowPlan.{RowPlan}
use Rattle.lt_forest.specs.declared.part.PartRow.{PartRow}
use Rattle.lt_rows.specs.Views.{rows_of}
use Rattle.lt_rows.specs.declared.view.View.{View}
use Rattle.lt_rows.specs.Handles.{knows}
use Rattle.lt_tree.specs.States.{KeepsRows}
use Rattle.lt_tree.specs.Descents.{IsLast}
use Rattle.lt_tree.specs.Gathers.{IsLocked, first_rows}
use Rattle.lt_tree.proofs.StartLaws.{starts_here, first_small, last_first, last_on}
use Rattle.lt_tree.proofs.locked.gather_below.Goals as goal

pub begin-requires-clause-small : goal.begin-requires-clause-small
begin-requires-clause-small c =
    first_small (knows c.args.pass.now) c.args.tree c.args.asked.now c.args.stop.now.here c.args.stop.now.child c.requires.stays
    (subst (λ (p : RowPlan). c.args.tree < p.trees) (sym c.requires.of.1) c.requires.tree)
    (subst (λ (p : RowPlan). rows_of p < 4294967296) (sym c.requires.of.1) c.args.table.now.sized.0.3)

pub gather_rest-requires-clause-begun : goal.gather_rest-requires-clause-begun
gather_rest-requires-clause-begun c =
    subst (λ (xs : List PartRow). IsLocked (knows c.args.pass.now) c.args.tree c.args.asked.now c.args.stop.now.here.row xs c.begin.new.part.hangs.items)
    (sym c.begin.ensures.rows)
    (subst (λ (xs : List ℕ). IsLocked (knows c.args.pass.now) c.args.tree c.args.asked.now c.args.stop.now.here.row (first_rows c.args.stop.now.child) xs)
    (sym c.begin.ensures.hangs)
    (starts_here (knows c.args.pass.now) c.args.tree c.args.asked.now c.args.stop.now.here c.args.stop.now.child c.requires.stays))

pub returns-clause-last : goal.returns-clause-last
returns-clause-last c =
    let v : View = knows c.args.pass.now in
    let w : View = knows c.gather_rest.new.pass in
    let here = c.args.stop.now.here.row in
    IfOk-weaker c.gather_rest.result (λ _. KeepsRows v w) (λ _. IsLast w c.args.tree c.args.asked.now here)
    (λ part kept. last_on v w c.args.tree c.args.asked.now here (c.gather_rest.ensures.of.0.1 ∙ sym c.requires.of.1) kept
    (last_first v c.args.tree c.args.asked.now c.args.stop.now.here c.args.stop.now.child c.requires.stays))
    c.gather_rest.ensures.kept
