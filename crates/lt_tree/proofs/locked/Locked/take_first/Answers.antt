use Rattle.std.proofs.Common.{◌≡◌, ◌-◌, ◌<◌, ◌∷◌, ℕ, [], refl, sym, ap, ◌∙◌, subst, arith}
use Rattle.lt_rows.specs.declared.row_plan.RowPlan.{RowPlan}
use Rattle.lt_rows.specs.declared.view.View.{View}
use Rattle.lt_rows.specs.declared.take.Take.TheVariants.{Taken}
use Rattle.lt_rows.specs.Views.{rows_of, row_at}
use Rattle.lt_rows.specs.Handles.{knows}
use Rattle.lt_tree.specs.States.{OnlyMet, Seizes}
use Rattle.lt_tree.specs.Gathers.{IsLockedWith}
use Rattle.lt_tree.specs.Pools.{pool_rows}
use Rattle.lt_tree.specs.declared.pool.PoolRows.{PoolRows}
use Rattle.lt_tree.proofs.TakingLaws.{locked_met}
use Rattle.lt_tree.proofs.PoolLaws.{pool_here, found, took_first, first_keeps, first_held}
use Rattle.lt_tree.proofs.locked.Locked.take_first.Goals as goal

pub load_row-image-requires-clause-row : goal.load_row-image-requires-clause-row
load_row-image-requires-clause-row c =
    let s = c.args.self.now in
    pool_here s.table.now.plan c.requires.locked s.of.0.1 s.of.2 c.plan.result.now.trees (ap (λ (p : RowPlan). p.trees) c.plan.ensures)

pub overflow_sub-row : goal.overflow_sub-row
overflow_sub-row c =
    let s = c.args.self.now in
    let l = c.load_row-image in
    let f = found s.table.now.plan c.requires.locked s.of.0.1 s.of.2 c.plan.result.now.trees (ap (λ (p : RowPlan). p.trees) c.plan.ensures)
    c.requires.licensed l.result.words l.ensures.words.1 c.left.result c.left.ensures in
    let some = f.some in
    omega arith

pub overflow_cast-row : goal.overflow_cast-row
overflow_cast-row c =
    let s = c.args.self.now in
    let l = c.load_row-image in
    let f = found s.table.now.plan c.requires.locked s.of.0.1 s.of.2 c.plan.result.now.trees (ap (λ (p : RowPlan). p.trees) c.plan.ensures)
    c.requires.licensed l.result.words l.ensures.words.1 c.left.result c.left.ensures in
    let inside = f.inside in
    let few = s.table.now.sized.0.3 in
    let rows : rows_of (knows c.args.self.now.pass).plan ≡ rows_of c.args.self.now.table.now.plan = ap rows_of s.of.0.1 in
    omega arith

pub take_row-requires-clause-row : goal.take_row-requires-clause-row
take_row-requires-clause-row c =
    let s = c.args.self.now in
    let l = c.load_row-image in
    let f = found s.table.now.plan c.requires.locked s.of.0.1 s.of.2 c.plan.result.now.trees (ap (λ (p : RowPlan). p.trees) c.plan.ensures)
    c.requires.licensed l.result.words l.ensures.words.1 c.left.result c.left.ensures in (
      subst (λ (p : RowPlan). c.left.result - 1 < rows_of p) s.of.0.1 f.inside,
      ap (λ (u : View). row_at u (c.left.result - 1)) l.ensures.same ∙ f.free,
    )

pub returns-in-Err-clause-locked : goal.returns-in-Err-clause-locked
returns-in-Err-clause-locked c =
    let s = c.args.self.now in
    let v : View = knows c.args.self.now.pass in
    let w : View = knows c.take_row.new.pass in
    let met = subst (λ (u : View). OnlyMet u w) c.load_row-image.ensures.same c.in-Err.ensures.only in
    let same : v.plan.trees ≡ w.plan.trees = ap (λ (p : RowPlan). p.trees) (s.of.0.1 ∙ sym c.in-Err.ensures.of.0.1) in
    subst (λ (p : PoolRows). IsLockedWith w s.tree s.asked s.held s.part.rows.items s.part.hangs.items (pool_rows w.plan.trees p))
    (sym c.requires.anchor)
    (subst (λ (n : ℕ). IsLockedWith w s.tree s.asked s.held s.part.rows.items s.part.hangs.items (n ∷ [])) same
    (locked_met v w s.tree s.asked s.held s.part.rows.items s.part.hangs.items met c.requires.locked))

pub returns-clause-locked : goal.returns-clause-locked
returns-clause-locked c =
    let s = c.args.self.now in
    let l = c.load_row-image in
    let w : View = knows c.take_row.new.pass in
    let seizes = subst (λ (u : View). Seizes (c.left.result - 1) u w Taken) l.ensures.same c.in-Ok.ensures.taken.0 in
    took_first s.table.now.plan c.requires.locked s.of.0.1 s.of.2 c.plan.result.now.trees (ap (λ (p : RowPlan). p.trees) c.plan.ensures)
    c.requires.licensed l.result.words l.ensures.words.1 c.left.result c.left.ensures seizes c.in-Ok.ensures.taken.1

pub returns-clause-rows : goal.returns-clause-rows
returns-clause-rows c =
    let s = c.args.self.now in
    let l = c.load_row-image in
    let w : View = knows c.take_row.new.pass in
    let seizes = subst (λ (u : View). Seizes (c.left.result - 1) u w Taken) l.ensures.same c.in-Ok.ensures.taken.0 in
    first_keeps s.table.now.plan c.requires.locked s.of.0.1 s.of.2 c.plan.result.now.trees (ap (λ (p : RowPlan). p.trees) c.plan.ensures)
    c.requires.licensed l.result.words l.ensures.words.1 c.left.result c.left.ensures seizes

pub returns-clause-first : goal.returns-clause-first
returns-clause-first c =
    let s = c.args.self.now in
    let l = c.load_row-image in
    let w : View = knows c.take_row.new.pass in
    let seizes = subst (λ (u : View). Seizes (c.left.result - 1) u w Taken) l.ensures.same c.in-Ok.ensures.taken.0 in (
      refl,
      first_held s.table.now.plan c.requires.locked s.of.0.1 s.of.2 c.plan.result.now.trees (ap (λ (p : RowPlan). p.trees) c.plan.ensures)
          c.requires.licensed l.result.words l.ensures.words.1 c.left.result c.left.ensures seizes,
    )
