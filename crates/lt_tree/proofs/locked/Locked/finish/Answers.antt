use Rattle.std.proofs.Common.{◌<◌, ◌++◌, ◌∷◌, ℕ, ℤ, w64, sym, ap, ◌∙◌, subst}
use Rattle.std.proofs.lemmas.Int.{to_z-of_z}
use Rattle.lt_rows.specs.declared.row_plan.RowPlan.{RowPlan}
use Rattle.lt_forest.specs.Parts.{numbers}
use Rattle.lt_rows.specs.declared.view.View.{View}
use Rattle.lt_rows.specs.Lawful.{IsCommit}
use Rattle.lt_rows.specs.Handles.{knows}
use Rattle.lt_tree.specs.Puttings.{Backs}
use Rattle.lt_tree.specs.Pools.{pool_rows}
use Rattle.lt_tree.proofs.ReleaseLaws.{locked_backs}
use Rattle.lt_tree.proofs.WritingLaws.{commit_plans, all_same, backs_then}
use Rattle.lt_tree.proofs.locked.Locked.finish.Goals as goal

pub commit-place-requires-clause-lawful : goal.commit-place-requires-clause-lawful
commit-place-requires-clause-lawful c =
    subst (λ (n : ℤ). IsCommit c.args.self.table.now.plan (knows c.args.self.pass) c.args.event.now c.args.plan.now n)
    (sym (to_z-of_z w64 c.args.change c.ranges.change))
    (subst (λ (k : RowPlan). IsCommit k (knows c.args.self.pass) c.args.event.now c.args.plan.now c.args.change) c.args.self.of.0.1
    c.requires.lawful)

pub write_all-requires-clause-held : goal.write_all-requires-clause-held
write_all-requires-clause-held c =
    let v : View = knows c.args.self.pass in
    let u : View = knows c.commit-place.new.pass in
    let made = c.commit-place.ensures.made in
    all_same v u (commit_plans v u c.args.plan.now _ made.2).same c.args.plan.now c.requires.held

pub put_held-requires-clause-backs : goal.put_held-requires-clause-backs
put_held-requires-clause-backs c =
    let v : View = knows c.args.self.pass in
    let u : View = knows c.commit-place.new.pass in
    let w : View = knows c.write_all.new.pass in
    let made = c.commit-place.ensures.made in
    let lt = subst (λ (k : RowPlan). c.args.self.tree < k.trees) (sym c.args.self.of.0.1) c.args.self.of.2 in
    let same = ap (λ (k : RowPlan). k.trees) (c.args.self.of.0.1 ∙ sym c.write_all.ensures.of.0.1) in
    subst (λ (n : ℕ). Backs w (pool_rows n c.args.self.pool ++ c.args.self.held ∷ numbers c.args.self.part.rows.items)) same
    (backs_then v u w c.args.plan.now (commit_plans v u c.args.plan.now _ made.2) c.write_all.ensures.written _
    (locked_backs v c.args.self.tree c.args.self.asked c.args.self.held c.args.self.part.rows.items c.args.self.part.hangs.items
    c.requires.locked lt))
