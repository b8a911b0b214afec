use Rattle.std.proofs.Common.{◌≡◌, ◌<◌, ℕ, [], ◌∷◌, refl, sym, ap, ◌∙◌, subst, arith}
use Rattle.lt_rows.specs.declared.row_plan.RowPlan.{RowPlan}
use Rattle.lt_rows.specs.declared.view.View.{View}
use Rattle.lt_rows.specs.declared.take.Take.TheVariants.{Taken}
use Rattle.lt_rows.specs.Views.{rows_of, row_at, IsHeld}
use Rattle.lt_rows.specs.Handles.{knows}
use Rattle.lt_tree.specs.States.{Seizes}
use Rattle.lt_tree.specs.Gathers.{IsLockedWith}
use Rattle.lt_tree.specs.Pools.{pool_rows}
use Rattle.lt_tree.specs.declared.pool.PoolRows.{PoolRows}
use Rattle.lt_tree.proofs.ViewLaws.{seized_row, seized_else}
use Rattle.lt_tree.proofs.TakingLaws.{locked_met}
use Rattle.lt_tree.proofs.PoolLaws.{pool_free, anchor_row, anchor_stays, anchor_held, takes_keeps, locked_takes}
use Rattle.lt_tree.proofs.locked.Locked.pool.Goals as goal

pub take_row-requires-clause-row : goal.take_row-requires-clause-row
take_row-requires-clause-row c =
    let v : View = knows c.args.self.now.pass in
    let s = c.args.self.now in
    let k = c.args.self.now.table.now.plan in
    let lt = subst (λ (p : RowPlan). c.args.self.now.tree < p.trees) (sym s.of.0.1) s.of.2 in
    let same : c.plan.result.now.trees ≡ v.plan.trees = ap (λ (p : RowPlan). p.trees) (c.plan.ensures ∙ sym s.of.0.1) in
    let l = subst (λ (p : PoolRows). IsLockedWith v s.tree s.asked s.held s.part.rows.items s.part.hangs.items
    (pool_rows v.plan.trees p)) c.in-Nothing.is c.requires.locked in (
      subst (λ (p : RowPlan). p.trees < rows_of c.args.self.now.table.now.plan) (sym c.plan.ensures) (anchor_row c.args.self.now.table.now.plan),
      subst (λ (n : ℕ). row_at v n ≡ _) (sym same) (pool_free v s.tree s.asked s.held s.part.rows.items s.part.hangs.items l lt),
    )

pub returns-in-Err-clause-locked : goal.returns-in-Err-clause-locked
returns-in-Err-clause-locked c =
    let v : View = knows c.args.self.now.pass in
    let w : View = knows c.take_row.new.pass in
    let s = c.args.self.now in
    let same : v.plan.trees ≡ w.plan.trees = ap (λ (p : RowPlan). p.trees) (s.of.0.1 ∙ sym c.in-Err.ensures.of.0.1) in
    subst (λ (n : ℕ). IsLockedWith w s.tree s.asked s.held s.part.rows.items s.part.hangs.items (pool_rows n s.pool)) same
    (locked_met v w s.tree s.asked s.held s.part.rows.items s.part.hangs.items c.in-Err.ensures.only c.requires.locked)

pub returns-in-Ok-clause-locked : goal.returns-in-Ok-clause-locked
returns-in-Ok-clause-locked c =
    let v : View = knows c.args.self.now.pass in
    let w : View = knows c.take_row.new.pass in
    let s = c.args.self.now in
    let lt = subst (λ (p : RowPlan). c.args.self.now.tree < p.trees) (sym s.of.0.1) s.of.2 in
    let l = subst (λ (p : PoolRows). IsLockedWith v s.tree s.asked s.held s.part.rows.items s.part.hangs.items
    (pool_rows v.plan.trees p)) c.in-Nothing.is c.requires.locked in
    let free = pool_free v s.tree s.asked s.held s.part.rows.items s.part.hangs.items l lt in
    let at : c.plan.result.now.trees ≡ v.plan.trees = ap (λ (p : RowPlan). p.trees) (c.plan.ensures ∙ sym s.of.0.1) in
    let same : v.plan.trees ≡ w.plan.trees = ap (λ (p : RowPlan). p.trees) (s.of.0.1 ∙ sym c.in-Ok.ensures.of.0.1) in
    subst (λ (n : ℕ). IsLockedWith w s.tree s.asked s.held s.part.rows.items s.part.hangs.items (n ∷ [])) same
    (locked_takes v s.tree s.asked s.held s.part.rows.items s.part.hangs.items l w v.plan.trees
    (subst (λ (n : ℕ). Seizes n v w Taken) at c.in-Ok.ensures.taken.0) free c.in-Ok.ensures.taken.1)

pub returns-in-Ok-clause-rows : goal.returns-in-Ok-clause-rows
returns-in-Ok-clause-rows c =
    let v : View = knows c.args.self.now.pass in
    let w : View = knows c.take_row.new.pass in
    let s = c.args.self.now in
    let lt = subst (λ (p : RowPlan). c.args.self.now.tree < p.trees) (sym s.of.0.1) s.of.2 in
    let l = subst (λ (p : PoolRows). IsLockedWith v s.tree s.asked s.held s.part.rows.items s.part.hangs.items
    (pool_rows v.plan.trees p)) c.in-Nothing.is c.requires.locked in
    let free = pool_free v s.tree s.asked s.held s.part.rows.items s.part.hangs.items l lt in
    let at : c.plan.result.now.trees ≡ v.plan.trees = ap (λ (p : RowPlan). p.trees) (c.plan.ensures ∙ sym s.of.0.1) in
    takes_keeps v s.tree s.asked s.held s.part.rows.items s.part.hangs.items l w v.plan.trees
    (subst (λ (n : ℕ). Seizes n v w Taken) at c.in-Ok.ensures.taken.0) free

pub returns-in-Ok-clause-others : goal.returns-in-Ok-clause-others
returns-in-Ok-clause-others c q ne =
    let at = ap (λ (p : RowPlan). p.trees) (c.plan.ensures ∙ sym c.args.self.now.of.0.1) in
    seized_else c.plan.result.now.trees (knows c.args.self.now.pass) (knows c.take_row.new.pass) c.in-Ok.ensures.taken.0 q (λ e. ne (e ∙ at))

pub returns-in-Ok-clause-held : goal.returns-in-Ok-clause-held
returns-in-Ok-clause-held c =
    let v : View = knows c.args.self.now.pass in
    let w : View = knows c.take_row.new.pass in
    let s = c.args.self.now in
    let at : c.plan.result.now.trees ≡ w.plan.trees = ap (λ (p : RowPlan). p.trees) (c.plan.ensures ∙ sym c.in-Ok.ensures.of.0.1) in
    let r = seized_row c.plan.result.now.trees v w c.in-Ok.ensures.taken.0 in
    subst (λ (n : ℕ). IsHeld w n) at (r.0, r.1)

pub returns-in-Anchor : goal.returns-in-Anchor
returns-in-Anchor c =
    let s = c.args.self.now in
    record {
      same = ((refl, refl), (refl, omega arith));
      kept = (refl, refl, refl, refl, refl);
      locked = c.requires.locked;
      rows = λ q h. refl;
      others = λ q ne. refl;
      pool = anchor_stays s.pool c.in-Anchor.is;
      held = anchor_held (knows s.pass) s.tree s.asked s.held s.part.rows.items s.part.hangs.items s.pool c.requires.locked c.in-Anchor.is;
      before = tt;
      refused = tt;
    }
