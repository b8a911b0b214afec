use Rattle.std.proofs.Common.{arith, ℕ, ◌≡◌, ◌-◌, ◌<◌, [], ◌∷◌, ◌++◌, List, length, sym, ap, ◌∙◌, subst, take}
use Rattle.std.specs.Prelude.{slice_index_or}
use Rattle.lt_forest.proofs.SameRows.{one_here}
use Rattle.lt_rows.specs.declared.row_plan.RowPlan.{RowPlan}
use Rattle.lt_rows.specs.declared.view.View.{View}
use Rattle.lt_rows.specs.Views.{IsHeld, row_at, rows_of, words_of}
use Rattle.lt_rows.specs.Handles.{knows}
use Rattle.lt_tree.specs.States.{KeepsRows}
use Rattle.lt_tree.specs.Puttings.{Backs}
use Rattle.lt_chain.specs.Images.{HasImages}
use Rattle.lt_chain.proofs.HoldingLaws.{backs_out, backs_held, backs_may_put, backs_met, backs_same, backs_taken, backs_put, keeps_taken}
use Rattle.lt_chain.proofs.FrontLaws.{pool_row}
use Rattle.lt_chain.proofs.PairLaws.{at_stands}
use Rattle.lt_chain.proofs.DropLaws.{Ended, chain_ended, pool_out, ends_held, split_last}
use Rattle.lt_chain.proofs.drop.take_ends.Goals as goal

pub seize-requires-clause-row : goal.seize-requires-clause-row
seize-requires-clause-row c =
    let k : RowPlan = c.plan.result.now in
    let tree : ℕ = c.args.tree in
    let rows : List ℕ = c.args.rows.now in
    let v : View = knows c.args.pass.now in
    let v1 : View = knows c.load_row-anchor.new.pass in
    let plan_is : (knows c.args.pass.now).plan ≡ c.plan.result.now = c.requires.of.1 ∙ sym c.plan.ensures in
    let lt : c.args.tree < c.plan.result.now.trees = subst (λ (p : RowPlan). c.args.tree < p.trees) (sym c.plan.ensures) c.requires.tree in
    let far : Ended c.plan.result.now c.args.rows.now = chain_ended k v tree rows plan_is lt c.requires.chain c.load_row-anchor.ensures.teaches in
    let some : 0 < length c.args.rows.now = far.some in
    let out = pool_out k tree rows lt far in
    let b1 : Backs (knows c.load_row-anchor.new.pass) (c.args.tree ∷ c.args.rows.now) = backs_same v v1 (tree ∷ rows) c.load_row-anchor.ensures.same c.requires.chain.backs in
    (subst (λ (p : RowPlan). c.plan.result.now.trees < rows_of p) c.plan.ensures (pool_row k), backs_out v1 (tree ∷ rows) b1 k.trees out)

pub put-requires-clause-settled : goal.put-requires-clause-settled
put-requires-clause-settled c =
    let k : RowPlan = c.plan.result.now in
    let tree : ℕ = c.args.tree in
    let rows : List ℕ = c.args.rows.now in
    let v : View = knows c.args.pass.now in
    let v1 : View = knows c.load_row-anchor.new.pass in
    let plan_is : (knows c.args.pass.now).plan ≡ c.plan.result.now = c.requires.of.1 ∙ sym c.plan.ensures in
    let lt : c.args.tree < c.plan.result.now.trees = subst (λ (p : RowPlan). c.args.tree < p.trees) (sym c.plan.ensures) c.requires.tree in
    let far : Ended c.plan.result.now c.args.rows.now = chain_ended k v tree rows plan_is lt c.requires.chain c.load_row-anchor.ensures.teaches in
    let some : 0 < length c.args.rows.now = far.some in
    let out = pool_out k tree rows lt far in
    let b1 : Backs (knows c.load_row-anchor.new.pass) (c.args.tree ∷ c.args.rows.now) = backs_same v v1 (tree ∷ rows) c.load_row-anchor.ensures.same c.requires.chain.backs in
    let v2 : View = knows c.seize.new.pass in
    let b2 : Backs (knows c.seize.new.pass) (c.args.tree ∷ c.args.rows.now) = backs_met v1 v2 (tree ∷ rows) c.in-HeldBy.ensures.seized.0 b1 in
    let one = one_here c.args.tree in backs_may_put v2 (tree ∷ rows) b2 tree (omega arith)

pub put_rows-requires-clause-backs : goal.put_rows-requires-clause-backs
put_rows-requires-clause-backs c =
    let k : RowPlan = c.plan.result.now in
    let tree : ℕ = c.args.tree in
    let rows : List ℕ = c.args.rows.now in
    let v : View = knows c.args.pass.now in
    let v1 : View = knows c.load_row-anchor.new.pass in
    let plan_is : (knows c.args.pass.now).plan ≡ c.plan.result.now = c.requires.of.1 ∙ sym c.plan.ensures in
    let lt : c.args.tree < c.plan.result.now.trees = subst (λ (p : RowPlan). c.args.tree < p.trees) (sym c.plan.ensures) c.requires.tree in
    let far : Ended c.plan.result.now c.args.rows.now = chain_ended k v tree rows plan_is lt c.requires.chain c.load_row-anchor.ensures.teaches in
    let some : 0 < length c.args.rows.now = far.some in
    let out = pool_out k tree rows lt far in
    let b1 : Backs (knows c.load_row-anchor.new.pass) (c.args.tree ∷ c.args.rows.now) = backs_same v v1 (tree ∷ rows) c.load_row-anchor.ensures.same c.requires.chain.backs in
    let v2 : View = knows c.seize.new.pass in
    let b2 : Backs (knows c.seize.new.pass) (c.args.tree ∷ c.args.rows.now) = backs_met v1 v2 (tree ∷ rows) c.in-HeldBy.ensures.seized.0 b1 in
    backs_put tree v2 (knows c.put.new.pass) rows c.put.ensures.given b2

pub load_row-pool-requires-clause-row : goal.load_row-pool-requires-clause-row
load_row-pool-requires-clause-row c =
    let k : RowPlan = c.plan.result.now in
    let tree : ℕ = c.args.tree in
    let rows : List ℕ = c.args.rows.now in
    let v : View = knows c.args.pass.now in
    let v1 : View = knows c.load_row-anchor.new.pass in
    let plan_is : (knows c.args.pass.now).plan ≡ c.plan.result.now = c.requires.of.1 ∙ sym c.plan.ensures in
    let lt : c.args.tree < c.plan.result.now.trees = subst (λ (p : RowPlan). c.args.tree < p.trees) (sym c.plan.ensures) c.requires.tree in
    let far : Ended c.plan.result.now c.args.rows.now = chain_ended k v tree rows plan_is lt c.requires.chain c.load_row-anchor.ensures.teaches in
    let some : 0 < length c.args.rows.now = far.some in
    let out = pool_out k tree rows lt far in
    let b1 : Backs (knows c.load_row-anchor.new.pass) (c.args.tree ∷ c.args.rows.now) = backs_same v v1 (tree ∷ rows) c.load_row-anchor.ensures.same c.requires.chain.backs in
    let v2 : View = knows c.seize.new.pass in
    let s = c.in-Taken.ensures.seized in
    let b2 : Backs (knows c.seize.new.pass) (c.plan.result.now.trees ∷ c.args.tree ∷ c.args.rows.now) = backs_taken k.trees v1 v2 (tree ∷ rows) s out b1 in
    let one = one_here c.plan.result.now.trees in backs_held v2 (k.trees ∷ tree ∷ rows) b2 k.trees (omega arith)

pub overflow_sub-rows : goal.overflow_sub-rows
overflow_sub-rows c =
    let k : RowPlan = c.plan.result.now in
    let tree : ℕ = c.args.tree in
    let rows : List ℕ = c.args.rows.now in
    let v : View = knows c.args.pass.now in
    let v1 : View = knows c.load_row-anchor.new.pass in
    let plan_is : (knows c.args.pass.now).plan ≡ c.plan.result.now = c.requires.of.1 ∙ sym c.plan.ensures in
    let lt : c.args.tree < c.plan.result.now.trees = subst (λ (p : RowPlan). c.args.tree < p.trees) (sym c.plan.ensures) c.requires.tree in
    let far : Ended c.plan.result.now c.args.rows.now = chain_ended k v tree rows plan_is lt c.requires.chain c.load_row-anchor.ensures.teaches in
    let some : 0 < length c.args.rows.now = far.some in
    let out = pool_out k tree rows lt far in
    let b1 : Backs (knows c.load_row-anchor.new.pass) (c.args.tree ∷ c.args.rows.now) = backs_same v v1 (tree ∷ rows) c.load_row-anchor.ensures.same c.requires.chain.backs in
    omega arith

pub bounds-rows-rows : goal.bounds-rows-rows
bounds-rows-rows c =
    let k : RowPlan = c.plan.result.now in
    let tree : ℕ = c.args.tree in
    let rows : List ℕ = c.args.rows.now in
    let v : View = knows c.args.pass.now in
    let v1 : View = knows c.load_row-anchor.new.pass in
    let plan_is : (knows c.args.pass.now).plan ≡ c.plan.result.now = c.requires.of.1 ∙ sym c.plan.ensures in
    let lt : c.args.tree < c.plan.result.now.trees = subst (λ (p : RowPlan). c.args.tree < p.trees) (sym c.plan.ensures) c.requires.tree in
    let far : Ended c.plan.result.now c.args.rows.now = chain_ended k v tree rows plan_is lt c.requires.chain c.load_row-anchor.ensures.teaches in
    let some : 0 < length c.args.rows.now = far.some in
    let out = pool_out k tree rows lt far in
    let b1 : Backs (knows c.load_row-anchor.new.pass) (c.args.tree ∷ c.args.rows.now) = backs_same v v1 (tree ∷ rows) c.load_row-anchor.ensures.same c.requires.chain.backs in
    omega arith

pub load_row-row-requires-clause-row : goal.load_row-row-requires-clause-row
load_row-row-requires-clause-row c =
    let k : RowPlan = c.plan.result.now in
    let tree : ℕ = c.args.tree in
    let rows : List ℕ = c.args.rows.now in
    let v : View = knows c.args.pass.now in
    let v1 : View = knows c.load_row-anchor.new.pass in
    let plan_is : (knows c.args.pass.now).plan ≡ c.plan.result.now = c.requires.of.1 ∙ sym c.plan.ensures in
    let lt : c.args.tree < c.plan.result.now.trees = subst (λ (p : RowPlan). c.args.tree < p.trees) (sym c.plan.ensures) c.requires.tree in
    let far : Ended c.plan.result.now c.args.rows.now = chain_ended k v tree rows plan_is lt c.requires.chain c.load_row-anchor.ensures.teaches in
    let some : 0 < length c.args.rows.now = far.some in
    let out = pool_out k tree rows lt far in
    let b1 : Backs (knows c.load_row-anchor.new.pass) (c.args.tree ∷ c.args.rows.now) = backs_same v v1 (tree ∷ rows) c.load_row-anchor.ensures.same c.requires.chain.backs in
    let v2 : View = knows c.seize.new.pass in
    let s = c.in-Taken.ensures.seized in
    let b2 : Backs (knows c.seize.new.pass) (c.plan.result.now.trees ∷ c.args.tree ∷ c.args.rows.now) = backs_taken k.trees v1 v2 (tree ∷ rows) s out b1 in
    let v3 : View = knows c.load_row-pool.new.pass in
    let b3 : Backs (knows c.load_row-pool.new.pass) (c.plan.result.now.trees ∷ c.args.tree ∷ c.args.rows.now) = backs_same v2 v3 (k.trees ∷ tree ∷ rows) c.load_row-pool.ensures.same b2 in
    let at = at_stands rows (length c.args.rows.now - 1) (omega arith) in
    backs_held v3 (k.trees ∷ tree ∷ rows) b3 (slice_index_or c.args.rows.now (length c.args.rows.now - 1) 0) (omega arith)

pub returns-clause-kept : goal.returns-clause-kept
returns-clause-kept c =
    let k : RowPlan = c.plan.result.now in
    let tree : ℕ = c.args.tree in
    let rows : List ℕ = c.args.rows.now in
    let v : View = knows c.args.pass.now in
    let v1 : View = knows c.load_row-anchor.new.pass in
    let plan_is : (knows c.args.pass.now).plan ≡ c.plan.result.now = c.requires.of.1 ∙ sym c.plan.ensures in
    let lt : c.args.tree < c.plan.result.now.trees = subst (λ (p : RowPlan). c.args.tree < p.trees) (sym c.plan.ensures) c.requires.tree in
    let far : Ended c.plan.result.now c.args.rows.now = chain_ended k v tree rows plan_is lt c.requires.chain c.load_row-anchor.ensures.teaches in
    let some : 0 < length c.args.rows.now = far.some in
    let out = pool_out k tree rows lt far in
    let b1 : Backs (knows c.load_row-anchor.new.pass) (c.args.tree ∷ c.args.rows.now) = backs_same v v1 (tree ∷ rows) c.load_row-anchor.ensures.same c.requires.chain.backs in
    let v2 : View = knows c.seize.new.pass in
    let s = c.in-Taken.ensures.seized in
    let b2 : Backs (knows c.seize.new.pass) (c.plan.result.now.trees ∷ c.args.tree ∷ c.args.rows.now) = backs_taken k.trees v1 v2 (tree ∷ rows) s out b1 in
    let v3 : View = knows c.load_row-pool.new.pass in
    let b3 : Backs (knows c.load_row-pool.new.pass) (c.plan.result.now.trees ∷ c.args.tree ∷ c.args.rows.now) = backs_same v2 v3 (k.trees ∷ tree ∷ rows) c.load_row-pool.ensures.same b2 in
    (λ q h.
    let h1 : IsHeld (knows c.load_row-anchor.new.pass) q = (h.0, ap (λ (u : View). row_at u q) c.load_row-anchor.ensures.same ∙ h.1) in
    ap (λ (u : View). row_at u q) (c.load_row-row.ensures.same ∙ c.load_row-pool.ensures.same)
    ∙ (keeps_taken k.trees v1 v2 (tree ∷ rows) s out b1 q h1 ∙ ap (λ (u : View). row_at u q) c.load_row-anchor.ensures.same))

pub returns-clause-held : goal.returns-clause-held
returns-clause-held c =
    let k : RowPlan = c.plan.result.now in
    let tree : ℕ = c.args.tree in
    let rows : List ℕ = c.args.rows.now in
    let v : View = knows c.args.pass.now in
    let v1 : View = knows c.load_row-anchor.new.pass in
    let plan_is : (knows c.args.pass.now).plan ≡ c.plan.result.now = c.requires.of.1 ∙ sym c.plan.ensures in
    let lt : c.args.tree < c.plan.result.now.trees = subst (λ (p : RowPlan). c.args.tree < p.trees) (sym c.plan.ensures) c.requires.tree in
    let far : Ended c.plan.result.now c.args.rows.now = chain_ended k v tree rows plan_is lt c.requires.chain c.load_row-anchor.ensures.teaches in
    let some : 0 < length c.args.rows.now = far.some in
    let out = pool_out k tree rows lt far in
    let b1 : Backs (knows c.load_row-anchor.new.pass) (c.args.tree ∷ c.args.rows.now) = backs_same v v1 (tree ∷ rows) c.load_row-anchor.ensures.same c.requires.chain.backs in
    let v2 : View = knows c.seize.new.pass in
    let s = c.in-Taken.ensures.seized in
    let b2 : Backs (knows c.seize.new.pass) (c.plan.result.now.trees ∷ c.args.tree ∷ c.args.rows.now) = backs_taken k.trees v1 v2 (tree ∷ rows) s out b1 in
    let v3 : View = knows c.load_row-pool.new.pass in
    let b3 : Backs (knows c.load_row-pool.new.pass) (c.plan.result.now.trees ∷ c.args.tree ∷ c.args.rows.now) = backs_same v2 v3 (k.trees ∷ tree ∷ rows) c.load_row-pool.ensures.same b2 in
    let v4 : View = knows c.load_row-row.new.pass in
    let b4 : Backs (knows c.load_row-row.new.pass) (c.plan.result.now.trees ∷ c.args.tree ∷ c.args.rows.now) = backs_same v3 v4 (k.trees ∷ tree ∷ rows) c.load_row-row.ensures.same b3 in
    let kept : KeepsRows (knows c.args.pass.now) (knows c.load_row-row.new.pass) = (λ q h.
    let h1 : IsHeld (knows c.load_row-anchor.new.pass) q = (h.0, ap (λ (u : View). row_at u q) c.load_row-anchor.ensures.same ∙ h.1) in
    ap (λ (u : View). row_at u q) (c.load_row-row.ensures.same ∙ c.load_row-pool.ensures.same)
    ∙ (keeps_taken k.trees v1 v2 (tree ∷ rows) s out b1 q h1 ∙ ap (λ (u : View). row_at u q) c.load_row-anchor.ensures.same)) in
    let one = one_here c.args.tree in
    let pool_words = c.load_row-pool.ensures.words.1 ∙ ap (λ (u : View). words_of (row_at u k.trees)) (sym (c.load_row-row.ensures.same ∙ c.load_row-pool.ensures.same)) in
    let row_words = c.load_row-row.ensures.words.1 ∙ ap (λ (u : View). words_of (row_at u (slice_index_or c.args.rows.now (length c.args.rows.now - 1) 0))) (sym c.load_row-row.ensures.same) in
    let anchor_words = c.load_row-anchor.ensures.words.1 ∙ ap words_of (sym (kept tree (backs_held v (tree ∷ rows) c.requires.chain.backs tree (omega arith)))) in
    subst (λ (p : RowPlan). HasImages p (knows c.load_row-row.new.pass) c.args.tree (record { anchor = c.load_row-anchor.result; pool = c.load_row-pool.result; row = c.load_row-row.result })) c.plan.ensures
    (ends_held k v4 tree rows (record { anchor = c.load_row-anchor.result; pool = c.load_row-pool.result; row = c.load_row-row.result }) lt far b4
    c.load_row-anchor.ensures.words.0 c.load_row-pool.ensures.words.0 c.load_row-row.ensures.words.0 anchor_words pool_words row_words)

pub returns-clause-backs : goal.returns-clause-backs
returns-clause-backs c =
    let k : RowPlan = c.plan.result.now in
    let tree : ℕ = c.args.tree in
    let rows : List ℕ = c.args.rows.now in
    let v : View = knows c.args.pass.now in
    let v1 : View = knows c.load_row-anchor.new.pass in
    let plan_is : (knows c.args.pass.now).plan ≡ c.plan.result.now = c.requires.of.1 ∙ sym c.plan.ensures in
    let lt : c.args.tree < c.plan.result.now.trees = subst (λ (p : RowPlan). c.args.tree < p.trees) (sym c.plan.ensures) c.requires.tree in
    let far : Ended c.plan.result.now c.args.rows.now = chain_ended k v tree rows plan_is lt c.requires.chain c.load_row-anchor.ensures.teaches in
    let some : 0 < length c.args.rows.now = far.some in
    let out = pool_out k tree rows lt far in
    let b1 : Backs (knows c.load_row-anchor.new.pass) (c.args.tree ∷ c.args.rows.now) = backs_same v v1 (tree ∷ rows) c.load_row-anchor.ensures.same c.requires.chain.backs in
    let v2 : View = knows c.seize.new.pass in
    let s = c.in-Taken.ensures.seized in
    let b2 : Backs (knows c.seize.new.pass) (c.plan.result.now.trees ∷ c.args.tree ∷ c.args.rows.now) = backs_taken k.trees v1 v2 (tree ∷ rows) s out b1 in
    let v3 : View = knows c.load_row-pool.new.pass in
    let b3 : Backs (knows c.load_row-pool.new.pass) (c.plan.result.now.trees ∷ c.args.tree ∷ c.args.rows.now) = backs_same v2 v3 (k.trees ∷ tree ∷ rows) c.load_row-pool.ensures.same b2 in
    let v4 : View = knows c.load_row-row.new.pass in
    let b4 : Backs (knows c.load_row-row.new.pass) (c.plan.result.now.trees ∷ c.args.tree ∷ c.args.rows.now) = backs_same v3 v4 (k.trees ∷ tree ∷ rows) c.load_row-row.ensures.same b3 in
    subst (λ (p : RowPlan). Backs (knows c.load_row-row.new.pass) (p.trees ∷ c.args.tree ∷ c.args.rows.now)) c.plan.ensures b4

pub returns-clause-last : goal.returns-clause-last
returns-clause-last c =
    let k : RowPlan = c.plan.result.now in
    let tree : ℕ = c.args.tree in
    let rows : List ℕ = c.args.rows.now in
    let v : View = knows c.args.pass.now in
    let v1 : View = knows c.load_row-anchor.new.pass in
    let plan_is : (knows c.args.pass.now).plan ≡ c.plan.result.now = c.requires.of.1 ∙ sym c.plan.ensures in
    let lt : c.args.tree < c.plan.result.now.trees = subst (λ (p : RowPlan). c.args.tree < p.trees) (sym c.plan.ensures) c.requires.tree in
    let far : Ended c.plan.result.now c.args.rows.now = chain_ended k v tree rows plan_is lt c.requires.chain c.load_row-anchor.ensures.teaches in
    let some : 0 < length c.args.rows.now = far.some in
    let out = pool_out k tree rows lt far in
    let b1 : Backs (knows c.load_row-anchor.new.pass) (c.args.tree ∷ c.args.rows.now) = backs_same v v1 (tree ∷ rows) c.load_row-anchor.ensures.same c.requires.chain.backs in
    split_last rows some ∙ ap (λ (x : ℕ). take (length c.args.rows.now - 1) c.args.rows.now ++ x ∷ []) (sym c.load_row-row.ensures.words.0)
