use Rattle.std.proofs.Common.{rules, ◌≡◌, ◌<◌, ◌+◌, ◌∷◌, ◌∙◌, ℕ, length, sym, ap, subst, arith}
use Rattle.lt_rows.specs.declared.row_plan.RowPlan.{RowPlan}
use Rattle.lt_rows.specs.declared.take.Take.TheVariants.{Taken}
use Rattle.lt_rows.specs.declared.view.View.{View}
use Rattle.lt_rows.specs.Handles.{knows}
use Rattle.lt_rows.specs.Teaching.{Teaches}
use Rattle.lt_rows.specs.Views.{row_at, rows_of, words_of}
use Rattle.lt_tree.specs.States.{Seizes}
use Rattle.lt_tree.proofs.ViewLaws.{keeps_on, seized_row}
use Rattle.lt_locktree.specs.PlannedParts.{IsLoaded}
use Rattle.lt_locktree.proofs.HeldRows.{not_held}
use Rattle.lt_locktree.proofs.EndsHeld.{pool_inside, pool_apart, HoldsPool, holds_pool, ends_with_pool, ends_with_first}
use Rattle.lt_locktree.proofs.buffer_rows.take_ends.Goals as goal
use Rattle.lt_locktree.proofs.buffer_rows.take_ends.Goals.{After-load_row-pool, After-plan}

trees_are : (c : After-plan) → c.plan.result.now.trees ≡ (knows c.args.pass.now).plan.trees
trees_are c = ap (λ (p : RowPlan). p.trees) (c.plan.ensures ∙ sym c.requires.of.1)

inside : (c : After-plan) → c.args.tree < (knows c.args.pass.now).plan.trees
inside c = subst (λ (p : RowPlan). c.args.tree < p.trees) (sym c.requires.of.1) c.requires.tree

loaded : (c : After-plan) → IsLoaded (knows c.args.pass.now) c.args.tree c.load_row-anchor.result
loaded c = let long : length c.load_row-anchor.result.words ≡ 21 = search rules in
    record { row = c.load_row-anchor.ensures.words.0; words = c.load_row-anchor.ensures.words.1; long = long }

pub seize-requires-clause-row : goal.seize-requires-clause-row
seize-requires-clause-row c =
    let at = (goal.at.seize-requires-clause-row c).After-plan in
    let v : View = knows c.args.pass.now in (
      subst (λ (p : RowPlan). p.trees < rows_of c.args.table.now.plan) (sym c.plan.ensures) (pool_inside c.args.table.now.plan),
      (λ j. row_at (c.load_row-anchor.ensures.same j) (trees_are at j))
          ∙ not_held v (c.args.tree ∷ c.args.rows.now) c.requires.chain.backs v.plan.trees
          (pool_apart v c.args.tree c.args.rows.now (inside at) c.requires.chain c.load_row-anchor.ensures.teaches),
    )

pub load_row-pool-requires-clause-row : goal.load_row-pool-requires-clause-row
load_row-pool-requires-clause-row c =
    let s = seized_row c.plan.result.now.trees (knows c.load_row-anchor.new.pass) (knows c.seize.new.pass) c.in-Taken.ensures.seized in
    (s.0, s.1)

pool_held : (c : After-load_row-pool) → c.plan.result.now.trees ≡ (knows c.args.pass.now).plan.trees
    → c.args.tree < (knows c.args.pass.now).plan.trees
    → HoldsPool (knows c.args.pass.now) (knows c.load_row-pool.new.pass) c.args.tree c.args.rows.now c.load_row-pool.result
pool_held c trees lt =
    let v : View = knows c.args.pass.now in
    let w : View = knows c.seize.new.pass in
    let long : length c.load_row-pool.result.words ≡ 21 = search rules in
    let s = subst (λ (x : ℕ × View). Seizes x.0 x.1 w Taken) (λ j. (trees j, c.load_row-anchor.ensures.same j)) c.in-Taken.ensures.seized in
    holds_pool v w (knows c.load_row-pool.new.pass) c.args.tree c.args.rows.now c.load_row-pool.result lt c.requires.chain
    c.load_row-anchor.ensures.teaches s c.load_row-pool.ensures.same (c.load_row-pool.ensures.words.0 ∙ trees)
    (c.load_row-pool.ensures.words.1 ∙ ap (λ (n : ℕ). words_of (row_at w n)) trees) long

pub returns-then-pairs-rows-2-clause-kept : goal.returns-then-pairs-rows-2-clause-kept
returns-then-pairs-rows-2-clause-kept c =
    let at = (goal.at.returns-then-pairs-rows-2-clause-kept c).After-plan in
    (pool_held (goal.at.returns-then-pairs-rows-2-clause-kept c).After-load_row-pool (trees_are at) (inside at)).kept

teaches_on : (c : After-load_row-pool) → Teaches (knows c.load_row-pool.new.pass)
teaches_on c = subst Teaches (sym c.load_row-pool.ensures.same) c.load_row-pool.ensures.teaches

pub returns-then-pairs-rows-2-clause-held : goal.returns-then-pairs-rows-2-clause-held
returns-then-pairs-rows-2-clause-held c =
    let at = (goal.at.returns-then-pairs-rows-2-clause-held c).After-plan in
    let there = (goal.at.returns-then-pairs-rows-2-clause-held c).After-load_row-pool in
    ends_with_pool (knows c.args.pass.now) (knows c.load_row-pool.new.pass) c.args.tree c.args.rows.now c.args.pairs c.load_row-pool.result
    c.load_row-anchor.result c.requires.chain (pool_held there (trees_are at) (inside at)) (loaded at) (teaches_on there) (omega arith)

pub take_first-requires-clause-backs : goal.take_first-requires-clause-backs
take_first-requires-clause-backs c =
    let at = (goal.at.take_first-requires-clause-backs c).After-plan in
    (pool_held (goal.at.take_first-requires-clause-backs c).After-load_row-pool (trees_are at) (inside at)).backs

pub take_first-requires-clause-shows : goal.take_first-requires-clause-shows
take_first-requires-clause-shows c =
    let at = (goal.at.take_first-requires-clause-shows c).After-plan in
    (pool_held (goal.at.take_first-requires-clause-shows c).After-load_row-pool (trees_are at) (inside at)).shows

pub returns-in-Ok-clause-kept : goal.returns-in-Ok-clause-kept
returns-in-Ok-clause-kept c =
    let at = (goal.at.returns-in-Ok-clause-kept c).After-plan in
    let p = pool_held (goal.at.returns-in-Ok-clause-kept c).After-load_row-pool (trees_are at) (inside at) in
    keeps_on (knows c.args.pass.now) (knows c.load_row-pool.new.pass) (knows c.take_first.new.pass) p.kept c.in-Ok.ensures.kept

pub returns-in-Ok-clause-held : goal.returns-in-Ok-clause-held
returns-in-Ok-clause-held c =
    let at = (goal.at.returns-in-Ok-clause-held c).After-plan in
    let e = c.in-Ok.ensures in
    let many : c.args.pairs ≡ length c.args.rows.now + 1 =
    (let room = c.requires.room in let ne = c.if-pairs-rows.false in let le = c.if-pairs-rows-2.false in omega arith) in
    ends_with_first (knows c.args.pass.now) (knows c.load_row-pool.new.pass) c.args.tree c.args.rows.now c.args.pairs c.load_row-pool.result
    c.load_row-anchor.result c.requires.chain
    (pool_held (goal.at.returns-in-Ok-clause-held c).After-load_row-pool (trees_are at) (inside at)) (loaded at)
    (knows c.take_first.new.pass) c.in-Ok.row e.only e.kept e.teaches e.held e.first.0 e.first.1 many
