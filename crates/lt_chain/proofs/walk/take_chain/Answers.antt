use Rattle.std.proofs.Common.{rules, arith, ◌++◌, ℕ, ◌≡◌, ◌≢◌, ◌+◌, ◌-◌, ◌<◌, List, [], ◌∷◌, sym, ap, ◌∙◌, subst}
use Rattle.lt_forest.proofs.SameRows.{one_here}
use Rattle.lt_rows.specs.declared.row_plan.RowPlan.{RowPlan}
use Rattle.lt_rows.specs.declared.view.View.{View}
use Rattle.lt_rows.specs.Views.{rows_of}
use Rattle.lt_rows.specs.Handles.{knows}
use Rattle.lt_tree.specs.States.{OnlyRows, KeepsRows}
use Rattle.lt_tree.specs.Puttings.{Backs}
use Rattle.lt_tree.specs.Descents.{free_rows}
use Rattle.lt_tree.proofs.ViewLaws.{rows_on, rows_seized, keeps_on}
use Rattle.lt_chain.specs.Chains.{Walks}
use Rattle.lt_chain.proofs.HoldingLaws.{backs_out, backs_held, backs_may_put, backs_put}
use Rattle.lt_chain.proofs.WalkLaws.{next_row, taken_backs, taken_keeps, walks_on, fewer_free}
use Rattle.lt_chain.proofs.walk.take_chain.Goals as goal

pub overflow_cast-row : goal.overflow_cast-row
overflow_cast-row c =
    let i = c.loop-link.invariant in
    let v : View = knows c.loop-link.pass in
    let tree : ℕ = c.args.tree in
    let rows : List ℕ = c.loop-link.rows.items in
    let r : ℕ = c.loop-link.link - 1 in
    let ne : c.loop-link.link ≢ 0 = c.loop-link-test.true in
    let link_is : c.loop-link.link ≡ (c.loop-link.link - 1) + 1 = omega arith in
    let w : Walks (knows c.loop-link.pass) c.args.tree i.4.0 i.4.1 c.loop-link.rows.items ((c.loop-link.link - 1) + 1) = subst (Walks (knows c.loop-link.pass) c.args.tree i.4.0 i.4.1 c.loop-link.rows.items) link_is i.4.2 in
    let lt : c.args.tree < (knows c.loop-link.pass).plan.trees = subst (λ (p : RowPlan). c.args.tree < p.trees) (sym i.0.1) c.requires.tree in
    let next = next_row v tree i.4.0 i.4.1 r rows w lt in
    let inside : c.loop-link.link - 1 < rows_of c.args.table.now.plan = subst (λ (p : RowPlan). c.loop-link.link - 1 < rows_of p) i.0.1 next.1 in
    let few = c.args.table.now.sized.0.3 in
    (omega arith)

pub seize-requires-clause-row : goal.seize-requires-clause-row
seize-requires-clause-row c =
    let i = c.loop-link.invariant in
    let v : View = knows c.loop-link.pass in
    let tree : ℕ = c.args.tree in
    let rows : List ℕ = c.loop-link.rows.items in
    let r : ℕ = c.loop-link.link - 1 in
    let ne : c.loop-link.link ≢ 0 = c.loop-link-test.true in
    let link_is : c.loop-link.link ≡ (c.loop-link.link - 1) + 1 = omega arith in
    let w : Walks (knows c.loop-link.pass) c.args.tree i.4.0 i.4.1 c.loop-link.rows.items ((c.loop-link.link - 1) + 1) = subst (Walks (knows c.loop-link.pass) c.args.tree i.4.0 i.4.1 c.loop-link.rows.items) link_is i.4.2 in
    let lt : c.args.tree < (knows c.loop-link.pass).plan.trees = subst (λ (p : RowPlan). c.args.tree < p.trees) (sym i.0.1) c.requires.tree in
    let next = next_row v tree i.4.0 i.4.1 r rows w lt in
    let inside : c.loop-link.link - 1 < rows_of c.args.table.now.plan = subst (λ (p : RowPlan). c.loop-link.link - 1 < rows_of p) i.0.1 next.1 in
    (inside, backs_out v (tree ∷ rows) w.backs r next.2)

pub put-requires-clause-settled : goal.put-requires-clause-settled
put-requires-clause-settled c =
    let i = c.loop-link.invariant in
    let v : View = knows c.loop-link.pass in
    let tree : ℕ = c.args.tree in
    let rows : List ℕ = c.loop-link.rows.items in
    let r : ℕ = c.loop-link.link - 1 in
    let ne : c.loop-link.link ≢ 0 = c.loop-link-test.true in
    let link_is : c.loop-link.link ≡ (c.loop-link.link - 1) + 1 = omega arith in
    let w : Walks (knows c.loop-link.pass) c.args.tree i.4.0 i.4.1 c.loop-link.rows.items ((c.loop-link.link - 1) + 1) = subst (Walks (knows c.loop-link.pass) c.args.tree i.4.0 i.4.1 c.loop-link.rows.items) link_is i.4.2 in
    let lt : c.args.tree < (knows c.loop-link.pass).plan.trees = subst (λ (p : RowPlan). c.args.tree < p.trees) (sym i.0.1) c.requires.tree in
    let next = next_row v tree i.4.0 i.4.1 r rows w lt in
    let inside : c.loop-link.link - 1 < rows_of c.args.table.now.plan = subst (λ (p : RowPlan). c.loop-link.link - 1 < rows_of p) i.0.1 next.1 in
    let u : View = knows c.seize.new.pass in
    let s = c.in-Taken.ensures.seized in
    let one = one_here (c.loop-link.link - 1) in
    backs_may_put u (r ∷ tree ∷ rows) (taken_backs v u tree i.4.0 i.4.1 r rows [] w lt s) r (omega arith)

pub returns-then-is_err-clause-backs : goal.returns-then-is_err-clause-backs
returns-then-is_err-clause-backs c =
    let i = c.loop-link.invariant in
    let v : View = knows c.loop-link.pass in
    let tree : ℕ = c.args.tree in
    let rows : List ℕ = c.loop-link.rows.items in
    let r : ℕ = c.loop-link.link - 1 in
    let ne : c.loop-link.link ≢ 0 = c.loop-link-test.true in
    let link_is : c.loop-link.link ≡ (c.loop-link.link - 1) + 1 = omega arith in
    let w : Walks (knows c.loop-link.pass) c.args.tree i.4.0 i.4.1 c.loop-link.rows.items ((c.loop-link.link - 1) + 1) = subst (Walks (knows c.loop-link.pass) c.args.tree i.4.0 i.4.1 c.loop-link.rows.items) link_is i.4.2 in
    let lt : c.args.tree < (knows c.loop-link.pass).plan.trees = subst (λ (p : RowPlan). c.args.tree < p.trees) (sym i.0.1) c.requires.tree in
    let next = next_row v tree i.4.0 i.4.1 r rows w lt in
    let inside : c.loop-link.link - 1 < rows_of c.args.table.now.plan = subst (λ (p : RowPlan). c.loop-link.link - 1 < rows_of p) i.0.1 next.1 in
    let u : View = knows c.seize.new.pass in
    let s = c.in-Taken.ensures.seized in
    let one = one_here (c.loop-link.link - 1) in
    let kept : c.push.new.self.items ≡ c.loop-link.rows.items = search rules in
    subst (λ (l : List ℕ). Backs (knows c.put.new.pass) (c.args.tree ∷ l)) (sym kept)
    (backs_put r u (knows c.put.new.pass) (tree ∷ rows) c.put.ensures.given (taken_backs v u tree i.4.0 i.4.1 r rows [] w lt s))

pub load_row-requires-in-loop-link-clause-row : goal.load_row-requires-in-loop-link-clause-row
load_row-requires-in-loop-link-clause-row c =
    let i = c.loop-link.invariant in
    let v : View = knows c.loop-link.pass in
    let tree : ℕ = c.args.tree in
    let rows : List ℕ = c.loop-link.rows.items in
    let r : ℕ = c.loop-link.link - 1 in
    let ne : c.loop-link.link ≢ 0 = c.loop-link-test.true in
    let link_is : c.loop-link.link ≡ (c.loop-link.link - 1) + 1 = omega arith in
    let w : Walks (knows c.loop-link.pass) c.args.tree i.4.0 i.4.1 c.loop-link.rows.items ((c.loop-link.link - 1) + 1) = subst (Walks (knows c.loop-link.pass) c.args.tree i.4.0 i.4.1 c.loop-link.rows.items) link_is i.4.2 in
    let lt : c.args.tree < (knows c.loop-link.pass).plan.trees = subst (λ (p : RowPlan). c.args.tree < p.trees) (sym i.0.1) c.requires.tree in
    let next = next_row v tree i.4.0 i.4.1 r rows w lt in
    let inside : c.loop-link.link - 1 < rows_of c.args.table.now.plan = subst (λ (p : RowPlan). c.loop-link.link - 1 < rows_of p) i.0.1 next.1 in
    let u : View = knows c.seize.new.pass in
    let s = c.in-Taken.ensures.seized in
    let one = one_here (c.loop-link.link - 1) in
    backs_held u (r ∷ tree ∷ rows) (taken_backs v u tree i.4.0 i.4.1 r rows [] w lt s) r (omega arith)

pub loop-link-smaller : goal.loop-link-smaller
loop-link-smaller c =
    let i = c.loop-link.invariant in
    let v : View = knows c.loop-link.pass in
    let tree : ℕ = c.args.tree in
    let rows : List ℕ = c.loop-link.rows.items in
    let r : ℕ = c.loop-link.link - 1 in
    let ne : c.loop-link.link ≢ 0 = c.loop-link-test.true in
    let link_is : c.loop-link.link ≡ (c.loop-link.link - 1) + 1 = omega arith in
    let w : Walks (knows c.loop-link.pass) c.args.tree i.4.0 i.4.1 c.loop-link.rows.items ((c.loop-link.link - 1) + 1) = subst (Walks (knows c.loop-link.pass) c.args.tree i.4.0 i.4.1 c.loop-link.rows.items) link_is i.4.2 in
    let lt : c.args.tree < (knows c.loop-link.pass).plan.trees = subst (λ (p : RowPlan). c.args.tree < p.trees) (sym i.0.1) c.requires.tree in
    let next = next_row v tree i.4.0 i.4.1 r rows w lt in
    let inside : c.loop-link.link - 1 < rows_of c.args.table.now.plan = subst (λ (p : RowPlan). c.loop-link.link - 1 < rows_of p) i.0.1 next.1 in
    let u : View = knows c.seize.new.pass in
    let s = c.in-Taken.ensures.seized in
    let one = one_here (c.loop-link.link - 1) in
    let fewer = fewer_free v u tree i.4.0 i.4.1 r rows [] w lt s in
    let same : free_rows (knows c.load_row-in-loop-link.new.pass).held ≡ free_rows (knows c.seize.new.pass).held = ap (λ (x : View). free_rows x.held) c.load_row-in-loop-link.ensures.same in
    omega arith

pub loop-link-preserved : goal.loop-link-preserved
loop-link-preserved c =
    let i = c.loop-link.invariant in
    let v : View = knows c.loop-link.pass in
    let tree : ℕ = c.args.tree in
    let rows : List ℕ = c.loop-link.rows.items in
    let r : ℕ = c.loop-link.link - 1 in
    let ne : c.loop-link.link ≢ 0 = c.loop-link-test.true in
    let link_is : c.loop-link.link ≡ (c.loop-link.link - 1) + 1 = omega arith in
    let w : Walks (knows c.loop-link.pass) c.args.tree i.4.0 i.4.1 c.loop-link.rows.items ((c.loop-link.link - 1) + 1) = subst (Walks (knows c.loop-link.pass) c.args.tree i.4.0 i.4.1 c.loop-link.rows.items) link_is i.4.2 in
    let lt : c.args.tree < (knows c.loop-link.pass).plan.trees = subst (λ (p : RowPlan). c.args.tree < p.trees) (sym i.0.1) c.requires.tree in
    let next = next_row v tree i.4.0 i.4.1 r rows w lt in
    let inside : c.loop-link.link - 1 < rows_of c.args.table.now.plan = subst (λ (p : RowPlan). c.loop-link.link - 1 < rows_of p) i.0.1 next.1 in
    let u : View = knows c.seize.new.pass in
    let s = c.in-Taken.ensures.seized in
    let one = one_here (c.loop-link.link - 1) in
    let pushed : c.push.new.self.items ≡ c.loop-link.rows.items ++ (c.loop-link.link - 1) ∷ [] = search rules in
    let z : View = knows c.load_row-in-loop-link.new.pass in
    let load = c.load_row-in-loop-link.ensures in
    let only : OnlyRows (knows c.load_row.new.pass) (knows c.seize.new.pass) = rows_on (knows c.load_row.new.pass) v u i.2 (rows_seized r v u s) in
    let keeps : KeepsRows (knows c.load_row.new.pass) (knows c.seize.new.pass) = keeps_on (knows c.load_row.new.pass) v u i.3 (taken_keeps v u tree i.4.0 i.4.1 r rows [] w lt s) in
    let seize = c.in-Taken.ensures.of in (
      load.of.0,
      (load.of.1.0 ∙ (seize.1.0 ∙ i.1.0), load.of.1.1 ∙ (seize.1.1 ∙ i.1.1)),
      subst (λ (x : View). OnlyRows (knows c.load_row.new.pass) x) (sym load.same) only,
      subst (λ (x : View). KeepsRows (knows c.load_row.new.pass) x) (sym load.same) keeps,
      (
        i.4.0,
        i.4.1,
        subst (λ (x : List ℕ × ℕ). Walks (knows c.load_row-in-loop-link.new.pass) c.args.tree i.4.0 i.4.1 x.0 x.1) (λ j. (sym pushed j, sym c.left-link-in-loop-link.ensures j))
            (walks_on v u tree i.4.0 i.4.1 r rows c.load_row-in-loop-link.result.words w lt s z load.same load.teaches load.words.1),
      ),
    )
