use Rattle.std.proofs.Common.{◌≡◌, ◌<◌, ℕ, None, sym, ap, ◌∙◌, subst}
use Rattle.lt_rows.specs.declared.row_plan.RowPlan.{RowPlan}
use Rattle.lt_rows.specs.declared.view.View.{View}
use Rattle.lt_rows.specs.Views.{row_at, with_row}
use Rattle.lt_rows.specs.Handles.{knows}
use Rattle.lt_tree.specs.States.{HoldsElse}
use Rattle.lt_tree.specs.Gathers.{IsLockedWith}
use Rattle.lt_tree.specs.Pools.{pool_rows}
use Rattle.lt_tree.specs.declared.pool.PoolRows.{PoolRows}
use Rattle.lt_tree.proofs.ViewLaws.{rows_plan, keeps_on}
use Rattle.lt_tree.proofs.PoolLaws.{pool_free, further_gone, locked_puts, same_again}
use Rattle.lt_tree.proofs.locked.Locked.vacant.Goals as goal

pub returns-in-Ok-take_first-clause-rows : goal.returns-in-Ok-take_first-clause-rows
returns-in-Ok-take_first-clause-rows c =
    keeps_on (knows c.args.self.now.pass) (knows c.pool.new.self.pass) (knows c.take_first-in-Nothing.new.self.pass)
    c.in-Ok.ensures.rows c.in-Ok-take_first.ensures.rows

pub returns-in-Err-take_first-clause-locked : goal.returns-in-Err-take_first-clause-locked
returns-in-Err-take_first-clause-locked c =
    let s = c.take_first-in-Nothing.new.self in
    let y : View = knows c.take_first-in-Nothing.new.self.pass in
    let w : View = knows c.put.new.pass in
    let l = subst (λ (p : PoolRows). IsLockedWith y s.tree s.asked s.held s.part.rows.items s.part.hangs.items (pool_rows y.plan.trees p))
    c.in-Err-take_first.ensures.before.0 c.in-Err-take_first.ensures.locked in
    let at : c.plan.result.now.trees ≡ y.plan.trees = ap (λ (p : RowPlan). p.trees) (c.plan.ensures ∙ sym s.of.0.1) in
    locked_puts y s.tree s.asked s.held s.part.rows.items s.part.hangs.items y.plan.trees l w
    (subst (λ (n : ℕ). w ≡ with_row y n None) at c.put.ensures.given)

pub returns-in-Err-take_first-clause-before : goal.returns-in-Err-take_first-clause-before
returns-in-Err-take_first-clause-before c =
    let a = c.args.self.now in
    let s = c.take_first-in-Nothing.new.self in
    let v : View = knows c.args.self.now.pass in
    let x : View = knows c.pool.new.self.pass in
    let y : View = knows c.take_first-in-Nothing.new.self.pass in
    let w : View = knows c.put.new.pass in
    let before = subst (λ (p : PoolRows). IsLockedWith v a.tree a.asked a.held a.part.rows.items a.part.hangs.items
    (pool_rows v.plan.trees p)) c.in-Nothing.is c.requires.locked in
    let lt = subst (λ (p : RowPlan). c.args.self.now.tree < p.trees) (sym a.of.0.1) a.of.2 in
    let l = subst (λ (p : PoolRows). IsLockedWith y s.tree s.asked s.held s.part.rows.items s.part.hangs.items (pool_rows y.plan.trees p))
    c.in-Err-take_first.ensures.before.0 c.in-Err-take_first.ensures.locked in
    let at : c.plan.result.now.trees ≡ y.plan.trees = ap (λ (p : RowPlan). p.trees) (c.plan.ensures ∙ sym s.of.0.1) in
    let gone = further_gone y s.tree s.asked s.held s.part.rows.items s.part.hangs.items y.plan.trees l w
    (subst (λ (n : ℕ). w ≡ with_row y n None) at c.put.ensures.given) in
    let same = ap (λ (p : RowPlan). p.trees)
    (rows_plan x y c.in-Err-take_first.ensures.same.1 ∙ rows_plan v x c.in-Ok.ensures.same.1) in (
      sym c.in-Nothing.is,
      same_again v x y w v.plan.trees (pool_free v a.tree a.asked a.held a.part.rows.items a.part.hangs.items before lt) c.in-Ok.ensures.others
          c.in-Err-take_first.ensures.before.1 (subst (λ (n : ℕ). row_at w n ≡ None) same gone.0) (subst (λ (n : ℕ). HoldsElse n y w) same gone.1),
    )

pub returns-in-Err-take_first-clause-rows : goal.returns-in-Err-take_first-clause-rows
returns-in-Err-take_first-clause-rows c q h = (returns-in-Err-take_first-clause-before c).1 q
