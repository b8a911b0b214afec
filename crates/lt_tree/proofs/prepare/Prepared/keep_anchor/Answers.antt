use Rattle.std.proofs.Common.{rules, ◌≡◌, ◌<◌, ◌++◌, ◌∷◌, List, ℕ, [], sym, ap, ◌∙◌, subst, arith}
use Rattle.lt_rows.specs.declared.row_plan.RowPlan.{RowPlan}
use Rattle.lt_forest.specs.declared.part.PartRow.{PartRow}
use Rattle.lt_forest.specs.Forest.{IsTree}
use Rattle.lt_rows.specs.declared.view.View.{View}
use Rattle.lt_rows.specs.Nodes.{node_of, mode_of}
use Rattle.lt_rows.specs.Views.{rows_of}
use Rattle.lt_rows.specs.Handles.{knows}
use Rattle.lt_rows.specs.Teaching.{Teaches}
use Rattle.lt_tree.specs.Gathers.{IsLocked}
use Rattle.lt_tree.proofs.ViewLaws.{prepared_again}
use Rattle.lt_tree.proofs.AnchorLaws.{small_by}
use Rattle.lt_tree.proofs.StartLaws.{anchor_starts}
use Rattle.lt_tree.proofs.prepare.Prepared.keep_anchor.Goals as goal

pub overflow_cast-left : goal.overflow_cast-left
overflow_cast-left c =
    let s = c.args.self in
    let l = c.load_row-anchor.ensures in
    let w : View = knows c.load_row-anchor.new.pass in
    let p = prepared_again (knows c.args.self.pass) w s.tree s.image c.load_row-anchor.result s.prepared.2 l.same l.words.0 l.words.1 in
    let lt = subst (λ (k : RowPlan). c.args.self.tree < k.trees) (sym l.of.0.1) s.prepared.1 in
    let small = small_by w s.tree c.load_row-anchor.result p lt (subst Teaches (sym l.same) l.teaches) in
    let few = s.table.now.sized.0.3 in
    let rows : rows_of (knows c.load_row-anchor.new.pass).plan ≡ rows_of c.args.self.table.now.plan = ap rows_of l.of.0.1 in
    let left = c.left.ensures in
    omega arith

pub gather_rest-requires-clause-begun : goal.gather_rest-requires-clause-begun
gather_rest-requires-clause-begun c =
    let s = c.args.self in
    let l = c.load_row-anchor.ensures in
    let v : View = knows c.args.self.pass in
    let w : View = knows c.load_row-anchor.new.pass in
    let p = prepared_again v w s.tree s.image c.load_row-anchor.result s.prepared.2 l.same l.words.0 l.words.1 in
    let same : s.image.words ≡ c.load_row-anchor.result.words = sym s.prepared.2.0.1 ∙ sym l.words.1 in
    let mode = subst (λ (ws : List ℕ). IsTree (mode_of ws)) same c.requires.tree_mode in
    let items : c.push.new.self.items ≡ c.in-Ok.part.hangs.items ++ c.left.result ∷ [] = search rules in
    let link : c.push.new.self.items ≡ (node_of c.load_row-anchor.result.words).left ∷ [] =
    items ∙ (ap (λ (xs : List ℕ). xs ++ c.left.result ∷ []) c.in-Ok.ensures.empty.1 ∙ ap (λ (n : ℕ). n ∷ []) c.left.ensures) in
    subst (λ (xs : List PartRow). IsLocked w s.tree c.args.asked.now s.tree xs c.push.new.self.items) (sym c.in-Ok.ensures.empty.0)
    (subst (λ (xs : List ℕ). IsLocked w s.tree c.args.asked.now s.tree [] xs) (sym link)
    (anchor_starts w s.tree c.args.asked.now c.load_row-anchor.result p (subst Teaches (sym l.same) l.teaches) mode))
