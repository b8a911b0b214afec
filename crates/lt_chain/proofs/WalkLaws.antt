-- A walk along a buffer's chain.
use Rattle.std.proofs.Common.{◌≡◌, ℕ, ◌+◌, ◌<◌, ◌≤◌, List, [], ◌∷◌, ◌++◌, set, sym, ap, ◌∙◌, subst, arith}
use Rattle.std.specs.Prelude.{Some}
use Rattle.lt_seq.specs.declared.event.Event.{Event}
use Rattle.lt_seq.specs.declared.event.Mode.TheVariants.{Buffer}
use Rattle.lt_seq.specs.declared.event.Mode.{Mode}
use Rattle.lt_seq.specs.Table.{TreeState, tree_at}
use mathlib.Core.Logic.{dite}
use native.Mathlib.Decide.{ℕ_discrete}
use Rattle.lt_seq.specs.History.{after}
use Rattle.lt_rows.specs.Plan.{setting_of}
use Rattle.lt_forest.specs.Counts.{times}
use Rattle.lt_forest.specs.Trees.{Node, Nodes}
use Rattle.lt_forest.specs.Forest.{Forest, IsForest, IsChain, IsRun, rows_at}
use Rattle.lt_forest.specs.Views.{IsIn}
use Rattle.lt_forest.proofs.Chains.{total_has, on_run, cut_chain}
use Rattle.lt_forest.proofs.ForestLaws.{as_chain}
use Rattle.lt_forest.proofs.FurtherRows.{in_tree_further}
use Rattle.lt_forest.proofs.SameRows.{one_here, one_equal, times-++, AgreeOn}
use Rattle.lt_rows.specs.declared.view.View.{View}
use Rattle.lt_rows.specs.declared.take.Take.TheVariants.{Taken}
use Rattle.lt_rows.specs.Nodes.{node_of, mode_of, nodes, modes}
use Rattle.lt_rows.specs.Views.{row_at, rows_of, words_of, images, image_of, has}
use Rattle.lt_rows.specs.Gaps.{gap_for}
use Rattle.lt_rows.specs.Lawful.{shown}
use Rattle.lt_rows.specs.Teaching.{Teaches}
use Rattle.lt_rows.proofs.Planned.{row_held, view_is, mode_held}
use Rattle.lt_tree.specs.States.{Seizes, KeepsRows}
use Rattle.lt_tree.specs.Puttings.{Backs}
use Rattle.lt_tree.specs.Descents.{free_rows}
use Rattle.lt_tree.proofs.ViewLaws.{met_rows}
use Rattle.lt_tree.proofs.DownLaws.{free_take}
use Rattle.lt_chain.specs.Chains.{Walks}
use Rattle.lt_chain.proofs.HoldingLaws.{one_else, backs_held, backs_out, backs_has, backs_taken, backs_order, keeps_taken}

-- runs

pub run_more : (c : Nodes) (link r next : ℕ) (run : List ℕ) → IsRun c link run (r + 1) → (c r).left ≡ next → IsRun c link (run ++ r ∷ []) next
run_more c link r next [] runs is = (runs, is)
run_more c link r next (x ∷ run) runs is = (runs.0, run_more c (c x).left r next run runs.1 is)

pub run_ends : (c : Nodes) (link : ℕ) (run : List ℕ) → IsRun c link run 0 → IsChain c link run
run_ends c link [] runs = runs
run_ends c link (x ∷ run) runs = (runs.0, run_ends c (c x).left run runs.1)

-- no row stands twice below an anchor
stands_once : {trees rows : ℕ} {c : Nodes} {mode : ℕ → Mode} {state : List TreeState} {f : Forest} (forest : IsForest trees rows c mode state f) (t q : ℕ) → t < trees
    → times q (rows_at (f.tree t)) ≤ 1
stands_once {trees = trees} {f = f} forest t q lt = dite (ℕ_discrete (times q (rows_at (f.tree t))) 0)
    (λ z. omega arith)
    (λ some.
    let far = in_tree_further forest t q lt (omega arith) in
    let o = forest.once q far.0 far.1 in
    let h = total_has (λ s. times q (rows_at (f.tree s))) trees t lt in
    omega arith)

-- the row to which the link leads
module _ (v : View) (tree owner count r : ℕ) (rows : List ℕ) (w : Walks v tree owner count rows (r + 1)) (lt : tree < v.plan.trees) where
  abbrev log : List Event
  log = w.teaches.0

  abbrev c : Nodes
  c = nodes w.teaches.2.contents

  anchor_in : IsIn (has v) tree
  anchor_in = let o = one_here tree in let h = backs_held v (tree ∷ rows) w.backs tree (omega arith) in row_held v tree h.0 h.1

  agree : (q : ℕ) → IsIn (has v) q → shown v [] q ≡ nodes w.teaches.2.contents q
  agree = (view_is v [] w.teaches.2.contents w.teaches.2.agrees).before

  mode_is : modes w.teaches.2.contents tree ≡ Buffer owner count
  mode_is = sym (mode_held v [] w.teaches.2.contents w.teaches.2.agrees tree anchor_in) ∙ w.mode

  rows_agree : AgreeOn (shown v []) (nodes w.teaches.2.contents) rows
  rows_agree q some = let h = backs_held v (tree ∷ rows) w.backs q (omega arith) in agree q (row_held v q h.0 h.1)

  true_run : IsRun (nodes w.teaches.2.contents) (nodes w.teaches.2.contents tree).left rows (r + 1)
  true_run = on_run (shown v []) (nodes w.teaches.2.contents) (nodes w.teaches.2.contents tree).left rows (r + 1) rows_agree
      (subst (λ (n : Node). IsRun (shown v []) n.left rows (r + 1)) (agree tree anchor_in) w.run)

  at_rest : (rest chain : List ℕ) → chain ≡ rows ++ rest → IsChain (nodes w.teaches.2.contents) (r + 1) rest → ((q : ℕ) → 0 < times q chain → (v.plan.trees < q) × (q < rows_of v.plan))
      → ((q : ℕ) → times q chain ≤ 1) → (v.plan.trees < r) × (r < rows_of v.plan) × (times r (tree ∷ rows) ≡ 0)
  at_rest [] chain is on further once = absurd (let z : r + 1 ≡ 0 = on in omega arith)
  at_rest (q ∷ rest) chain is on further once =
      let same : q ≡ r = (let e = on.0 in omega arith) in
      let t : times r chain ≡ times r (rows ++ q ∷ rest) = ap (λ (l : List ℕ). times r l) is in
      let s = times-++ r rows (q ∷ rest) in
      let o = one_equal r q (sym same) in
      let f = further r (omega arith) in
      let n = once r in
      let far = f.0 in
      let a = one_else r tree (λ e. omega arith) in
      (f.0, f.1, omega arith)

  pub next_row : (v.plan.trees < r) × (r < rows_of v.plan) × (times r (tree ∷ rows) ≡ 0)
  next_row =
      let forest = w.teaches.2.shape.forest in
      let at = as_chain (nodes w.teaches.2.contents) (nodes w.teaches.2.contents tree).left (w.teaches.2.forest.tree tree) (tree_at (after (setting_of v.plan) w.teaches.0) tree).pairs
      (modes w.teaches.2.contents tree) owner count mode_is (forest.grown tree lt) in
      let cut = cut_chain (nodes w.teaches.2.contents) (nodes w.teaches.2.contents tree).left rows at.rows (r + 1) at.leads true_run in
      let same : (q : ℕ) → times q (rows_at (w.teaches.2.forest.tree tree)) ≡ times q at.rows = (λ q. ap (λ g. times q (rows_at g)) at.is) in
      at_rest cut.rest at.rows cut.is cut.on
      (λ q some. in_tree_further forest tree q lt (let s = same q in omega arith))
      (λ q. (let s = same q in let n = stands_once forest tree q lt in omega arith))

-- the row is taken and loaded
module _ (v u : View) (tree owner count r : ℕ) (rows ws : List ℕ) (w : Walks v tree owner count rows (r + 1)) (lt : tree < v.plan.trees)
    (s : Seizes r v u Taken) where
  apart_is : times r (tree ∷ rows) ≡ 0
  apart_is = (next_row v tree owner count r rows w lt).2

  pub taken_backs : Backs u (r ∷ tree ∷ rows)
  taken_backs = backs_taken r v u (tree ∷ rows) s apart_is w.backs

  pub listed_backs : Backs u (tree ∷ rows ++ r ∷ [])
  listed_backs = backs_order u (r ∷ tree ∷ rows) (tree ∷ rows ++ r ∷ []) (λ q. (let t = times-++ q rows (r ∷ []) in omega arith)) taken_backs

  pub taken_keeps : KeepsRows v u
  taken_keeps = keeps_taken r v u (tree ∷ rows) s apart_is w.backs

  same_image : (q : ℕ) → 0 < times q (tree ∷ rows) → images u q ≡ images v q
  same_image q some = ap image_of (taken_keeps q (backs_held v (tree ∷ rows) w.backs q some))

  same_anchor : images u tree ≡ images v tree
  same_anchor = same_image tree (let o = one_here tree in omega arith)

  pub walks_on : (z : View) → z ≡ u → Teaches u → ws ≡ words_of (row_at u r) → Walks z tree owner count (rows ++ r ∷ []) (node_of ws).left
  walks_on z same teaches loaded = subst (λ (x : View). Walks x tree owner count (rows ++ r ∷ []) (node_of ws).left) (sym same) record {
    backs = listed_backs;
    mode = ap mode_of same_anchor ∙ w.mode;
    run = run_more (shown u []) (shown u [] tree).left r (node_of ws).left rows
        (subst (λ (n : Node). IsRun (shown u []) n.left rows (r + 1)) (ap node_of (sym same_anchor))
        (on_run (shown v []) (shown u []) (shown v [] tree).left rows (r + 1) (λ q some. ap node_of (sym (same_image q (omega arith)))) w.run))
        (ap (λ (l : List ℕ). (node_of l).left) (backs_has u (r ∷ tree ∷ rows) taken_backs r (let o = one_here r in omega arith) ws loaded).2);
    teaches = teaches;
  }

  pub fewer_free : free_rows u.held + 1 ≡ free_rows v.held
  fewer_free =
      let same : free_rows s.0.held ≡ free_rows v.held = ap (λ (x : View). free_rows x.held) s.1.0 in
      let now : free_rows u.held ≡ free_rows (set s.0.held r (Some (record { words = s.2.0; image = s.2.0; gap = gap_for s.0 r }))) = ap (λ (x : View). free_rows x.held) s.2.3 in
      let f = free_take s.0.held r (record { words = s.2.0; image = s.2.0; gap = gap_for s.0 r }) (met_rows v s.0 r s.1 ∙ backs_out v (tree ∷ rows) w.backs r apart_is) s.2.2 in
      omega arith

-- the walk begins
pub walk_begins : (v z : View) (tree owner count : ℕ) (ws : List ℕ) → z ≡ v → Backs v (tree ∷ []) → mode_of (images v tree) ≡ Buffer owner count → Teaches v
    → ws ≡ words_of (row_at v tree) → Walks z tree owner count [] (node_of ws).left
walk_begins v z tree owner count ws same b mode teaches loaded = subst (λ (x : View). Walks x tree owner count [] (node_of ws).left) (sym same) record {
  backs = b;
  mode = mode;
  run = ap (λ (l : List ℕ). (node_of l).left) (backs_has v (tree ∷ []) b tree (let o = one_here tree in omega arith) ws loaded).2;
  teaches = teaches;
}
