use Rattle.std.proofs.Common.{arith, ℕ, suc, ◌≡◌, ◌≢◌, ◌-◌, ◌<◌, [], ◌∷◌, sym, ap, ◌∙◌, subst}
use Rattle.std.specs.Prelude.{slice_index}
use Rattle.lt_forest.proofs.SameRows.{one_here}
use Rattle.lt_rows.proofs.ThreeRows.{is_left}
use Rattle.lt_rows.specs.declared.view.View.{View}
use Rattle.lt_rows.specs.declared.row_plan.RowPlan.{RowPlan}
use Rattle.lt_rows.specs.Views.{IsHeld, row_at, rows_of, words_of}
use Rattle.lt_rows.specs.Handles.{knows}
use Rattle.lt_tree.specs.Puttings.{Backs}
use Rattle.lt_chain.proofs.HoldingLaws.{backs_none_left, backs_out, backs_held, backs_may_put, backs_met, backs_same, backs_taken, backs_put, keeps_taken}
use Rattle.lt_tree.proofs.ViewLaws.{rows_seized}
use Rattle.lt_chain.specs.Images.{HasImages, HoldsThree}
use Rattle.lt_chain.proofs.FrontLaws.{pool_row, first_vacant, pool_apart, first_apart, three_held}
use Rattle.lt_chain.proofs.front.take_front.Goals as goal

pub seize-requires-clause-row : goal.seize-requires-clause-row
seize-requires-clause-row c =
    let k : RowPlan = c.plan.result.now in
    let tree : ℕ = c.args.tree in
    let lt : c.args.tree < c.plan.result.now.trees = subst (λ (p : RowPlan). c.args.tree < p.trees) (sym c.plan.ensures) c.requires.tree in
    (subst (λ (p : RowPlan). c.plan.result.now.trees < rows_of p) c.plan.ensures (pool_row k), backs_out (knows c.args.pass.now) (tree ∷ []) c.requires.anchor k.trees (pool_apart k tree (suc k.trees) lt (omega arith)))

pub put-requires-clause-settled : goal.put-requires-clause-settled
put-requires-clause-settled c =
    let b : Backs (knows c.seize.new.pass) (c.args.tree ∷ []) = backs_met (knows c.args.pass.now) (knows c.seize.new.pass) (c.args.tree ∷ []) c.in-HeldBy.ensures.seized.0 c.requires.anchor in
    let a = one_here c.args.tree in
    backs_may_put (knows c.seize.new.pass) (c.args.tree ∷ []) b c.args.tree (omega arith)

pub returns-in-HeldBy-clause-none : goal.returns-in-HeldBy-clause-none
returns-in-HeldBy-clause-none c =
    let b : Backs (knows c.seize.new.pass) (c.args.tree ∷ []) = backs_met (knows c.args.pass.now) (knows c.seize.new.pass) (c.args.tree ∷ []) c.in-HeldBy.ensures.seized.0 c.requires.anchor in
    backs_none_left (knows c.put.new.pass) (backs_put c.args.tree (knows c.seize.new.pass) (knows c.put.new.pass) [] c.put.ensures.given b)

pub load_row-pool-requires-clause-row : goal.load_row-pool-requires-clause-row
load_row-pool-requires-clause-row c =
    let k : RowPlan = c.plan.result.now in
    let tree : ℕ = c.args.tree in
    let lt : c.args.tree < c.plan.result.now.trees = subst (λ (p : RowPlan). c.args.tree < p.trees) (sym c.plan.ensures) c.requires.tree in
    let b1 : Backs (knows c.seize.new.pass) (k.trees ∷ tree ∷ []) = backs_taken k.trees (knows c.args.pass.now) (knows c.seize.new.pass) (tree ∷ []) c.in-Taken.ensures.seized (pool_apart k tree (suc k.trees) lt (omega arith)) c.requires.anchor in
    let p = one_here c.plan.result.now.trees in
    let a = one_here c.args.tree in
    backs_held (knows c.seize.new.pass) (k.trees ∷ tree ∷ []) b1 k.trees (omega arith)

pub overflow_sub-first : goal.overflow_sub-first
overflow_sub-first c =
    let k : RowPlan = c.plan.result.now in
    let tree : ℕ = c.args.tree in
    let lt : c.args.tree < c.plan.result.now.trees = subst (λ (p : RowPlan). c.args.tree < p.trees) (sym c.plan.ensures) c.requires.tree in
    let b1 : Backs (knows c.seize.new.pass) (k.trees ∷ tree ∷ []) = backs_taken k.trees (knows c.args.pass.now) (knows c.seize.new.pass) (tree ∷ []) c.in-Taken.ensures.seized (pool_apart k tree (suc k.trees) lt (omega arith)) c.requires.anchor in
    let p = one_here c.plan.result.now.trees in
    let a = one_here c.args.tree in
    let b2 : Backs (knows c.load_row-pool.new.pass) (k.trees ∷ tree ∷ []) = backs_same (knows c.seize.new.pass) (knows c.load_row-pool.new.pass) (k.trees ∷ tree ∷ []) c.load_row-pool.ensures.same b1 in
    let only1 = rows_seized k.trees (knows c.args.pass.now) (knows c.seize.new.pass) c.in-Taken.ensures.seized in
    let first : ℕ = c.left.result - 1 in
    let far = first_vacant k (knows c.seize.new.pass) (k.trees ∷ tree ∷ []) c.load_row-pool.result.words c.left.result b1 (omega arith) (c.in-Taken.ensures.of.0.1 ∙ sym c.plan.ensures)
    (ap (λ (v : View). v.licensed) only1.0 ∙ c.requires.licensed) c.load_row-pool.ensures.teaches c.load_row-pool.ensures.words.1 c.left.ensures in
    let some : c.left.result ≢ 0 = far.0 in
    let further : c.plan.result.now.trees < c.left.result - 1 = far.1 in
    let inside : c.left.result - 1 < rows_of c.plan.result.now = far.2 in
    (omega arith)

pub overflow_cast-first : goal.overflow_cast-first
overflow_cast-first c =
    let k : RowPlan = c.plan.result.now in
    let tree : ℕ = c.args.tree in
    let lt : c.args.tree < c.plan.result.now.trees = subst (λ (p : RowPlan). c.args.tree < p.trees) (sym c.plan.ensures) c.requires.tree in
    let b1 : Backs (knows c.seize.new.pass) (k.trees ∷ tree ∷ []) = backs_taken k.trees (knows c.args.pass.now) (knows c.seize.new.pass) (tree ∷ []) c.in-Taken.ensures.seized (pool_apart k tree (suc k.trees) lt (omega arith)) c.requires.anchor in
    let p = one_here c.plan.result.now.trees in
    let a = one_here c.args.tree in
    let b2 : Backs (knows c.load_row-pool.new.pass) (k.trees ∷ tree ∷ []) = backs_same (knows c.seize.new.pass) (knows c.load_row-pool.new.pass) (k.trees ∷ tree ∷ []) c.load_row-pool.ensures.same b1 in
    let only1 = rows_seized k.trees (knows c.args.pass.now) (knows c.seize.new.pass) c.in-Taken.ensures.seized in
    let first : ℕ = c.left.result - 1 in
    let far = first_vacant k (knows c.seize.new.pass) (k.trees ∷ tree ∷ []) c.load_row-pool.result.words c.left.result b1 (omega arith) (c.in-Taken.ensures.of.0.1 ∙ sym c.plan.ensures)
    (ap (λ (v : View). v.licensed) only1.0 ∙ c.requires.licensed) c.load_row-pool.ensures.teaches c.load_row-pool.ensures.words.1 c.left.ensures in
    let some : c.left.result ≢ 0 = far.0 in
    let further : c.plan.result.now.trees < c.left.result - 1 = far.1 in
    let inside : c.left.result - 1 < rows_of c.plan.result.now = far.2 in
    let few : rows_of c.plan.result.now < 4294967296 = subst (λ (p : RowPlan). rows_of p < 4294967296) (sym c.plan.ensures) c.args.table.now.sized.0.3 in
    (omega arith)

pub seize-requires-2-clause-row : goal.seize-requires-2-clause-row
seize-requires-2-clause-row c =
    let k : RowPlan = c.plan.result.now in
    let tree : ℕ = c.args.tree in
    let lt : c.args.tree < c.plan.result.now.trees = subst (λ (p : RowPlan). c.args.tree < p.trees) (sym c.plan.ensures) c.requires.tree in
    let b1 : Backs (knows c.seize.new.pass) (k.trees ∷ tree ∷ []) = backs_taken k.trees (knows c.args.pass.now) (knows c.seize.new.pass) (tree ∷ []) c.in-Taken.ensures.seized (pool_apart k tree (suc k.trees) lt (omega arith)) c.requires.anchor in
    let p = one_here c.plan.result.now.trees in
    let a = one_here c.args.tree in
    let b2 : Backs (knows c.load_row-pool.new.pass) (k.trees ∷ tree ∷ []) = backs_same (knows c.seize.new.pass) (knows c.load_row-pool.new.pass) (k.trees ∷ tree ∷ []) c.load_row-pool.ensures.same b1 in
    let only1 = rows_seized k.trees (knows c.args.pass.now) (knows c.seize.new.pass) c.in-Taken.ensures.seized in
    let first : ℕ = c.left.result - 1 in
    let far = first_vacant k (knows c.seize.new.pass) (k.trees ∷ tree ∷ []) c.load_row-pool.result.words c.left.result b1 (omega arith) (c.in-Taken.ensures.of.0.1 ∙ sym c.plan.ensures)
    (ap (λ (v : View). v.licensed) only1.0 ∙ c.requires.licensed) c.load_row-pool.ensures.teaches c.load_row-pool.ensures.words.1 c.left.ensures in
    let some : c.left.result ≢ 0 = far.0 in
    let further : c.plan.result.now.trees < c.left.result - 1 = far.1 in
    let inside : c.left.result - 1 < rows_of c.plan.result.now = far.2 in
    (subst (λ (p : RowPlan). c.left.result - 1 < rows_of p) c.plan.ensures inside, backs_out (knows c.load_row-pool.new.pass) (k.trees ∷ tree ∷ []) b2 first (first_apart k tree first lt further))

pub put-requires-in-HeldBy-try_take-clause-settled : goal.put-requires-in-HeldBy-try_take-clause-settled
put-requires-in-HeldBy-try_take-clause-settled c =
    let k : RowPlan = c.plan.result.now in
    let tree : ℕ = c.args.tree in
    let lt : c.args.tree < c.plan.result.now.trees = subst (λ (p : RowPlan). c.args.tree < p.trees) (sym c.plan.ensures) c.requires.tree in
    let b1 : Backs (knows c.seize.new.pass) (k.trees ∷ tree ∷ []) = backs_taken k.trees (knows c.args.pass.now) (knows c.seize.new.pass) (tree ∷ []) c.in-Taken.ensures.seized (pool_apart k tree (suc k.trees) lt (omega arith)) c.requires.anchor in
    let p = one_here c.plan.result.now.trees in
    let a = one_here c.args.tree in
    let b2 : Backs (knows c.load_row-pool.new.pass) (k.trees ∷ tree ∷ []) = backs_same (knows c.seize.new.pass) (knows c.load_row-pool.new.pass) (k.trees ∷ tree ∷ []) c.load_row-pool.ensures.same b1 in
    let only1 = rows_seized k.trees (knows c.args.pass.now) (knows c.seize.new.pass) c.in-Taken.ensures.seized in
    let first : ℕ = c.left.result - 1 in
    let far = first_vacant k (knows c.seize.new.pass) (k.trees ∷ tree ∷ []) c.load_row-pool.result.words c.left.result b1 (omega arith) (c.in-Taken.ensures.of.0.1 ∙ sym c.plan.ensures)
    (ap (λ (v : View). v.licensed) only1.0 ∙ c.requires.licensed) c.load_row-pool.ensures.teaches c.load_row-pool.ensures.words.1 c.left.ensures in
    let some : c.left.result ≢ 0 = far.0 in
    let further : c.plan.result.now.trees < c.left.result - 1 = far.1 in
    let inside : c.left.result - 1 < rows_of c.plan.result.now = far.2 in
    let b3 : Backs (knows c.seize-2.new.pass) (k.trees ∷ tree ∷ []) = backs_met (knows c.load_row-pool.new.pass) (knows c.seize-2.new.pass) (k.trees ∷ tree ∷ []) c.in-HeldBy-try_take.ensures.seized.0 b2 in
    backs_may_put (knows c.seize-2.new.pass) (k.trees ∷ tree ∷ []) b3 k.trees (omega arith)

pub put-requires-in-HeldBy-try_take-2-clause-settled : goal.put-requires-in-HeldBy-try_take-2-clause-settled
put-requires-in-HeldBy-try_take-2-clause-settled c =
    let k : RowPlan = c.plan.result.now in
    let tree : ℕ = c.args.tree in
    let lt : c.args.tree < c.plan.result.now.trees = subst (λ (p : RowPlan). c.args.tree < p.trees) (sym c.plan.ensures) c.requires.tree in
    let b1 : Backs (knows c.seize.new.pass) (k.trees ∷ tree ∷ []) = backs_taken k.trees (knows c.args.pass.now) (knows c.seize.new.pass) (tree ∷ []) c.in-Taken.ensures.seized (pool_apart k tree (suc k.trees) lt (omega arith)) c.requires.anchor in
    let p = one_here c.plan.result.now.trees in
    let a = one_here c.args.tree in
    let b2 : Backs (knows c.load_row-pool.new.pass) (k.trees ∷ tree ∷ []) = backs_same (knows c.seize.new.pass) (knows c.load_row-pool.new.pass) (k.trees ∷ tree ∷ []) c.load_row-pool.ensures.same b1 in
    let only1 = rows_seized k.trees (knows c.args.pass.now) (knows c.seize.new.pass) c.in-Taken.ensures.seized in
    let first : ℕ = c.left.result - 1 in
    let far = first_vacant k (knows c.seize.new.pass) (k.trees ∷ tree ∷ []) c.load_row-pool.result.words c.left.result b1 (omega arith) (c.in-Taken.ensures.of.0.1 ∙ sym c.plan.ensures)
    (ap (λ (v : View). v.licensed) only1.0 ∙ c.requires.licensed) c.load_row-pool.ensures.teaches c.load_row-pool.ensures.words.1 c.left.ensures in
    let some : c.left.result ≢ 0 = far.0 in
    let further : c.plan.result.now.trees < c.left.result - 1 = far.1 in
    let inside : c.left.result - 1 < rows_of c.plan.result.now = far.2 in
    let b3 : Backs (knows c.seize-2.new.pass) (k.trees ∷ tree ∷ []) = backs_met (knows c.load_row-pool.new.pass) (knows c.seize-2.new.pass) (k.trees ∷ tree ∷ []) c.in-HeldBy-try_take.ensures.seized.0 b2 in
    let b4 : Backs (knows c.put-in-HeldBy-try_take.new.pass) (tree ∷ []) = backs_put k.trees (knows c.seize-2.new.pass) (knows c.put-in-HeldBy-try_take.new.pass) (tree ∷ []) c.put-in-HeldBy-try_take.ensures.given b3 in
    backs_may_put (knows c.put-in-HeldBy-try_take.new.pass) (tree ∷ []) b4 tree (omega arith)

pub returns-in-HeldBy-try_take-clause-none : goal.returns-in-HeldBy-try_take-clause-none
returns-in-HeldBy-try_take-clause-none c =
    let k : RowPlan = c.plan.result.now in
    let tree : ℕ = c.args.tree in
    let lt : c.args.tree < c.plan.result.now.trees = subst (λ (p : RowPlan). c.args.tree < p.trees) (sym c.plan.ensures) c.requires.tree in
    let b1 : Backs (knows c.seize.new.pass) (k.trees ∷ tree ∷ []) = backs_taken k.trees (knows c.args.pass.now) (knows c.seize.new.pass) (tree ∷ []) c.in-Taken.ensures.seized (pool_apart k tree (suc k.trees) lt (omega arith)) c.requires.anchor in
    let p = one_here c.plan.result.now.trees in
    let a = one_here c.args.tree in
    let b2 : Backs (knows c.load_row-pool.new.pass) (k.trees ∷ tree ∷ []) = backs_same (knows c.seize.new.pass) (knows c.load_row-pool.new.pass) (k.trees ∷ tree ∷ []) c.load_row-pool.ensures.same b1 in
    let only1 = rows_seized k.trees (knows c.args.pass.now) (knows c.seize.new.pass) c.in-Taken.ensures.seized in
    let first : ℕ = c.left.result - 1 in
    let far = first_vacant k (knows c.seize.new.pass) (k.trees ∷ tree ∷ []) c.load_row-pool.result.words c.left.result b1 (omega arith) (c.in-Taken.ensures.of.0.1 ∙ sym c.plan.ensures)
    (ap (λ (v : View). v.licensed) only1.0 ∙ c.requires.licensed) c.load_row-pool.ensures.teaches c.load_row-pool.ensures.words.1 c.left.ensures in
    let some : c.left.result ≢ 0 = far.0 in
    let further : c.plan.result.now.trees < c.left.result - 1 = far.1 in
    let inside : c.left.result - 1 < rows_of c.plan.result.now = far.2 in
    let b3 : Backs (knows c.seize-2.new.pass) (k.trees ∷ tree ∷ []) = backs_met (knows c.load_row-pool.new.pass) (knows c.seize-2.new.pass) (k.trees ∷ tree ∷ []) c.in-HeldBy-try_take.ensures.seized.0 b2 in
    let b4 : Backs (knows c.put-in-HeldBy-try_take.new.pass) (tree ∷ []) = backs_put k.trees (knows c.seize-2.new.pass) (knows c.put-in-HeldBy-try_take.new.pass) (tree ∷ []) c.put-in-HeldBy-try_take.ensures.given b3 in
    backs_none_left (knows c.put-in-HeldBy-try_take-2.new.pass) (backs_put tree (knows c.put-in-HeldBy-try_take.new.pass) (knows c.put-in-HeldBy-try_take-2.new.pass) [] c.put-in-HeldBy-try_take-2.ensures.given b4)

pub load_row-anchor-requires-clause-row : goal.load_row-anchor-requires-clause-row
load_row-anchor-requires-clause-row c =
    let k : RowPlan = c.plan.result.now in
    let tree : ℕ = c.args.tree in
    let lt : c.args.tree < c.plan.result.now.trees = subst (λ (p : RowPlan). c.args.tree < p.trees) (sym c.plan.ensures) c.requires.tree in
    let b1 : Backs (knows c.seize.new.pass) (k.trees ∷ tree ∷ []) = backs_taken k.trees (knows c.args.pass.now) (knows c.seize.new.pass) (tree ∷ []) c.in-Taken.ensures.seized (pool_apart k tree (suc k.trees) lt (omega arith)) c.requires.anchor in
    let p = one_here c.plan.result.now.trees in
    let a = one_here c.args.tree in
    let b2 : Backs (knows c.load_row-pool.new.pass) (k.trees ∷ tree ∷ []) = backs_same (knows c.seize.new.pass) (knows c.load_row-pool.new.pass) (k.trees ∷ tree ∷ []) c.load_row-pool.ensures.same b1 in
    let only1 = rows_seized k.trees (knows c.args.pass.now) (knows c.seize.new.pass) c.in-Taken.ensures.seized in
    let first : ℕ = c.left.result - 1 in
    let far = first_vacant k (knows c.seize.new.pass) (k.trees ∷ tree ∷ []) c.load_row-pool.result.words c.left.result b1 (omega arith) (c.in-Taken.ensures.of.0.1 ∙ sym c.plan.ensures)
    (ap (λ (v : View). v.licensed) only1.0 ∙ c.requires.licensed) c.load_row-pool.ensures.teaches c.load_row-pool.ensures.words.1 c.left.ensures in
    let some : c.left.result ≢ 0 = far.0 in
    let further : c.plan.result.now.trees < c.left.result - 1 = far.1 in
    let inside : c.left.result - 1 < rows_of c.plan.result.now = far.2 in
    let s3 = c.in-Taken-try_take.ensures.seized in
    let b3 : Backs (knows c.seize-2.new.pass) (first ∷ k.trees ∷ tree ∷ []) = backs_taken first (knows c.load_row-pool.new.pass) (knows c.seize-2.new.pass) (k.trees ∷ tree ∷ []) s3 (first_apart k tree first lt further) b2 in
    let f = one_here (c.left.result - 1) in
    backs_held (knows c.seize-2.new.pass) (first ∷ k.trees ∷ tree ∷ []) b3 tree (omega arith)

pub load_row-row-requires-clause-row : goal.load_row-row-requires-clause-row
load_row-row-requires-clause-row c =
    let k : RowPlan = c.plan.result.now in
    let tree : ℕ = c.args.tree in
    let lt : c.args.tree < c.plan.result.now.trees = subst (λ (p : RowPlan). c.args.tree < p.trees) (sym c.plan.ensures) c.requires.tree in
    let b1 : Backs (knows c.seize.new.pass) (k.trees ∷ tree ∷ []) = backs_taken k.trees (knows c.args.pass.now) (knows c.seize.new.pass) (tree ∷ []) c.in-Taken.ensures.seized (pool_apart k tree (suc k.trees) lt (omega arith)) c.requires.anchor in
    let p = one_here c.plan.result.now.trees in
    let a = one_here c.args.tree in
    let b2 : Backs (knows c.load_row-pool.new.pass) (k.trees ∷ tree ∷ []) = backs_same (knows c.seize.new.pass) (knows c.load_row-pool.new.pass) (k.trees ∷ tree ∷ []) c.load_row-pool.ensures.same b1 in
    let only1 = rows_seized k.trees (knows c.args.pass.now) (knows c.seize.new.pass) c.in-Taken.ensures.seized in
    let first : ℕ = c.left.result - 1 in
    let far = first_vacant k (knows c.seize.new.pass) (k.trees ∷ tree ∷ []) c.load_row-pool.result.words c.left.result b1 (omega arith) (c.in-Taken.ensures.of.0.1 ∙ sym c.plan.ensures)
    (ap (λ (v : View). v.licensed) only1.0 ∙ c.requires.licensed) c.load_row-pool.ensures.teaches c.load_row-pool.ensures.words.1 c.left.ensures in
    let some : c.left.result ≢ 0 = far.0 in
    let further : c.plan.result.now.trees < c.left.result - 1 = far.1 in
    let inside : c.left.result - 1 < rows_of c.plan.result.now = far.2 in
    let s3 = c.in-Taken-try_take.ensures.seized in
    let b3 : Backs (knows c.seize-2.new.pass) (first ∷ k.trees ∷ tree ∷ []) = backs_taken first (knows c.load_row-pool.new.pass) (knows c.seize-2.new.pass) (k.trees ∷ tree ∷ []) s3 (first_apart k tree first lt further) b2 in
    let f = one_here (c.left.result - 1) in
    let b5 : Backs (knows c.load_row-anchor.new.pass) (first ∷ k.trees ∷ tree ∷ []) = backs_same (knows c.seize-2.new.pass) (knows c.load_row-anchor.new.pass) (first ∷ k.trees ∷ tree ∷ []) c.load_row-anchor.ensures.same b3 in
    backs_held (knows c.load_row-anchor.new.pass) (first ∷ k.trees ∷ tree ∷ []) b5 first (omega arith)

pub returns-clause-kept : goal.returns-clause-kept
returns-clause-kept c =
    let k : RowPlan = c.plan.result.now in
    let tree : ℕ = c.args.tree in
    let lt : c.args.tree < c.plan.result.now.trees = subst (λ (p : RowPlan). c.args.tree < p.trees) (sym c.plan.ensures) c.requires.tree in
    let b1 : Backs (knows c.seize.new.pass) (k.trees ∷ tree ∷ []) = backs_taken k.trees (knows c.args.pass.now) (knows c.seize.new.pass) (tree ∷ []) c.in-Taken.ensures.seized (pool_apart k tree (suc k.trees) lt (omega arith)) c.requires.anchor in
    let p = one_here c.plan.result.now.trees in
    let a = one_here c.args.tree in
    let b2 : Backs (knows c.load_row-pool.new.pass) (k.trees ∷ tree ∷ []) = backs_same (knows c.seize.new.pass) (knows c.load_row-pool.new.pass) (k.trees ∷ tree ∷ []) c.load_row-pool.ensures.same b1 in
    let only1 = rows_seized k.trees (knows c.args.pass.now) (knows c.seize.new.pass) c.in-Taken.ensures.seized in
    let first : ℕ = c.left.result - 1 in
    let far = first_vacant k (knows c.seize.new.pass) (k.trees ∷ tree ∷ []) c.load_row-pool.result.words c.left.result b1 (omega arith) (c.in-Taken.ensures.of.0.1 ∙ sym c.plan.ensures)
    (ap (λ (v : View). v.licensed) only1.0 ∙ c.requires.licensed) c.load_row-pool.ensures.teaches c.load_row-pool.ensures.words.1 c.left.ensures in
    let some : c.left.result ≢ 0 = far.0 in
    let further : c.plan.result.now.trees < c.left.result - 1 = far.1 in
    let inside : c.left.result - 1 < rows_of c.plan.result.now = far.2 in
    let s3 = c.in-Taken-try_take.ensures.seized in
    let b3 : Backs (knows c.seize-2.new.pass) (first ∷ k.trees ∷ tree ∷ []) = backs_taken first (knows c.load_row-pool.new.pass) (knows c.seize-2.new.pass) (k.trees ∷ tree ∷ []) s3 (first_apart k tree first lt further) b2 in
    let f = one_here (c.left.result - 1) in
    let keeps1 = keeps_taken k.trees (knows c.args.pass.now) (knows c.seize.new.pass) (tree ∷ []) c.in-Taken.ensures.seized (pool_apart k tree (suc k.trees) lt (omega arith)) c.requires.anchor in
    let keeps3 = keeps_taken first (knows c.load_row-pool.new.pass) (knows c.seize-2.new.pass) (k.trees ∷ tree ∷ []) s3 (first_apart k tree first lt further) b2 in
    λ q h.
    let h1 : IsHeld (knows c.load_row-pool.new.pass) q = (h.0, ap (λ (v : View). row_at v q) c.load_row-pool.ensures.same ∙ (keeps1 q h ∙ h.1)) in
    ap (λ (v : View). row_at v q) (c.load_row-row.ensures.same ∙ c.load_row-anchor.ensures.same)
    ∙ (keeps3 q h1 ∙ (ap (λ (v : View). row_at v q) c.load_row-pool.ensures.same ∙ keeps1 q h))

pub returns-clause-held : goal.returns-clause-held
returns-clause-held c =
    let k : RowPlan = c.plan.result.now in
    let tree : ℕ = c.args.tree in
    let lt : c.args.tree < c.plan.result.now.trees = subst (λ (p : RowPlan). c.args.tree < p.trees) (sym c.plan.ensures) c.requires.tree in
    let b1 : Backs (knows c.seize.new.pass) (k.trees ∷ tree ∷ []) = backs_taken k.trees (knows c.args.pass.now) (knows c.seize.new.pass) (tree ∷ []) c.in-Taken.ensures.seized (pool_apart k tree (suc k.trees) lt (omega arith)) c.requires.anchor in
    let p = one_here c.plan.result.now.trees in
    let a = one_here c.args.tree in
    let b2 : Backs (knows c.load_row-pool.new.pass) (k.trees ∷ tree ∷ []) = backs_same (knows c.seize.new.pass) (knows c.load_row-pool.new.pass) (k.trees ∷ tree ∷ []) c.load_row-pool.ensures.same b1 in
    let only1 = rows_seized k.trees (knows c.args.pass.now) (knows c.seize.new.pass) c.in-Taken.ensures.seized in
    let first : ℕ = c.left.result - 1 in
    let far = first_vacant k (knows c.seize.new.pass) (k.trees ∷ tree ∷ []) c.load_row-pool.result.words c.left.result b1 (omega arith) (c.in-Taken.ensures.of.0.1 ∙ sym c.plan.ensures)
    (ap (λ (v : View). v.licensed) only1.0 ∙ c.requires.licensed) c.load_row-pool.ensures.teaches c.load_row-pool.ensures.words.1 c.left.ensures in
    let some : c.left.result ≢ 0 = far.0 in
    let further : c.plan.result.now.trees < c.left.result - 1 = far.1 in
    let inside : c.left.result - 1 < rows_of c.plan.result.now = far.2 in
    let s3 = c.in-Taken-try_take.ensures.seized in
    let b3 : Backs (knows c.seize-2.new.pass) (first ∷ k.trees ∷ tree ∷ []) = backs_taken first (knows c.load_row-pool.new.pass) (knows c.seize-2.new.pass) (k.trees ∷ tree ∷ []) s3 (first_apart k tree first lt further) b2 in
    let f = one_here (c.left.result - 1) in
    let same = c.load_row-row.ensures.same in
    let words2 = c.load_row-pool.ensures.words.1 ∙ ap (λ (v : View). words_of (row_at v k.trees)) (sym c.load_row-pool.ensures.same) in
    let words5 = c.load_row-row.ensures.words.1 ∙ ap (λ (v : View). words_of (row_at v first)) c.load_row-anchor.ensures.same in
    let h = three_held k tree first lt further (knows c.load_row-pool.new.pass) (knows c.seize-2.new.pass)
    (record { anchor = c.load_row-anchor.result; pool = c.load_row-pool.result; row = c.load_row-row.result }) s3 b2
    c.load_row-anchor.ensures.words.0 c.load_row-pool.ensures.words.0 c.load_row-row.ensures.words.0 words2 c.load_row-anchor.ensures.words.1 words5 in
    subst (λ (x : RowPlan × View). HasImages x.0 x.1 c.args.tree (record { anchor = c.load_row-anchor.result; pool = c.load_row-pool.result; row = c.load_row-row.result })
    × HoldsThree x.1 (record { anchor = c.load_row-anchor.result; pool = c.load_row-pool.result; row = c.load_row-row.result }))
    (λ j. (c.plan.ensures j, sym (c.load_row-row.ensures.same ∙ c.load_row-anchor.ensures.same) j)) h

pub returns-clause-first : goal.returns-clause-first
returns-clause-first c =
    let k : RowPlan = c.plan.result.now in
    let tree : ℕ = c.args.tree in
    let lt : c.args.tree < c.plan.result.now.trees = subst (λ (p : RowPlan). c.args.tree < p.trees) (sym c.plan.ensures) c.requires.tree in
    let b1 : Backs (knows c.seize.new.pass) (k.trees ∷ tree ∷ []) = backs_taken k.trees (knows c.args.pass.now) (knows c.seize.new.pass) (tree ∷ []) c.in-Taken.ensures.seized (pool_apart k tree (suc k.trees) lt (omega arith)) c.requires.anchor in
    let p = one_here c.plan.result.now.trees in
    let a = one_here c.args.tree in
    let b2 : Backs (knows c.load_row-pool.new.pass) (k.trees ∷ tree ∷ []) = backs_same (knows c.seize.new.pass) (knows c.load_row-pool.new.pass) (k.trees ∷ tree ∷ []) c.load_row-pool.ensures.same b1 in
    let only1 = rows_seized k.trees (knows c.args.pass.now) (knows c.seize.new.pass) c.in-Taken.ensures.seized in
    let first : ℕ = c.left.result - 1 in
    let far = first_vacant k (knows c.seize.new.pass) (k.trees ∷ tree ∷ []) c.load_row-pool.result.words c.left.result b1 (omega arith) (c.in-Taken.ensures.of.0.1 ∙ sym c.plan.ensures)
    (ap (λ (v : View). v.licensed) only1.0 ∙ c.requires.licensed) c.load_row-pool.ensures.teaches c.load_row-pool.ensures.words.1 c.left.ensures in
    let some : c.left.result ≢ 0 = far.0 in
    let further : c.plan.result.now.trees < c.left.result - 1 = far.1 in
    let inside : c.left.result - 1 < rows_of c.plan.result.now = far.2 in
    let row_is : c.load_row-row.result.row ≡ c.left.result - 1 = c.load_row-row.ensures.words.0 in
    let link : c.left.result ≡ slice_index c.load_row-pool.result.words 17 = c.left.ensures ∙ is_left c.load_row-pool.result.words in
    omega arith
