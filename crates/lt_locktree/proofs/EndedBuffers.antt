-- The commit that ends a buffer.
use Rattle.std.proofs.Common.{◌≡◌, ⊎_elim, ◌≢◌, ℕ, ℤ, zero, suc, ◌-◌, ◌^◌, ◌<◌, true}
use Rattle.std.proofs.Common.{List, [], ◌∷◌, ◌++◌, length, get_or, refl, sym, ap, ◌∙◌, subst, arith}
use mathlib.Core.Logic.{dite}
use native.Mathlib.Decide.{ℕ_discrete}
use Rattle.std.specs.Prelude.{pos, ◌+ℤ◌, nat_eq, Option}
use Rattle.std.proofs.lemmas.List.Elements.{All-from_get_or}
use Rattle.lt_seq.specs.declared.event.Event.{Event}
use Rattle.lt_seq.specs.declared.event.Mode.TheVariants.{Buffer}
use Rattle.lt_seq.specs.declared.event.Pair.{Pair}
use Rattle.lt_rows.specs.Plan.{setting_of}
use Rattle.lt_seq.specs.Table.{TreeState, tree_after, replied}
use Rattle.lt_forest.specs.Buffers.{buffered_state}
use Rattle.lt_forest.specs.Counts.{one_if, times}
use Rattle.lt_forest.specs.Forest.{IsChain, IsTree}
use Rattle.lt_forest.specs.Trees.{Node, Nodes}
use Rattle.lt_forest.specs.Views.{IsIn, PoolPlan, no_pool, from_pool}
use Rattle.lt_forest.proofs.Chains.{on_chain, on_folded}
use Rattle.lt_forest.proofs.SameRows.{AgreeOn, on_here, on_right, one_here, times-++}
use Rattle.lt_rows.specs.declared.image.RowImage.{RowImage}
use Rattle.lt_rows.specs.declared.pass.RowPass.{RowPass}
use Rattle.lt_rows.specs.declared.view.Row.{Row}
use Rattle.lt_rows.specs.declared.view.View.{View}
use Rattle.lt_rows.specs.Handles.{knows}
use Rattle.lt_rows.specs.Lawful.{shown, IsCommit}
use Rattle.lt_rows.specs.Nodes.{node_of, mode_of}
use Rattle.lt_rows.specs.Views.{AllHeld, has, image_of, planned_rows, row_at, rows_of}
use Rattle.lt_rows.proofs.Loops.{held_inside}
use Rattle.lt_rows.proofs.Planned.{held_row, row_held}
use Rattle.lt_rows.proofs.WoodCommits.{small_rows}
use Rattle.lt_tree.specs.Puttings.{Backs}
use Rattle.lt_tree.specs.States.{KeepsRows, OnlyRows}
use Rattle.lt_tree.proofs.PuttingLaws.{same_or_other}
use Rattle.lt_locktree.specs.declared.buffer_rows.EndRows.{EndRows}
use Rattle.lt_locktree.specs.EndedBuffers.{HoldsEnds, LaysPairs, spare_rows}
use Rattle.lt_locktree.specs.Endings.{HoldsBuffer}
use Rattle.lt_locktree.specs.EndingPlans.{LaysOut}
use Rattle.lt_locktree.specs.Ends.{EndsAs}
use Rattle.lt_locktree.proofs.EndingLaws.{laid_buffer_commits, length-pairs, taken_held}
use Rattle.lt_locktree.proofs.GrownServed.{all_held}
use Rattle.lt_locktree.proofs.PairsPlanned.{AllSmall}

-- rows that are held have small numbers

stands_there : (xs : List ℕ) (i : ℕ) → i < length xs → 0 < times (get_or xs i 0) xs
stands_there [] i lt = absurd (omega (arith, lt))
stands_there (x ∷ xs) zero lt = let o = one_here x in omega arith
stands_there (x ∷ xs) (suc i) lt = let h = stands_there xs i (omega (arith, lt)) in omega arith

pub small_ends : (pass : RowPass) (tree : ℕ) (olds : List ℕ) (pairs : ℕ) (i : EndRows) → HoldsEnds (knows pass) tree olds pairs i
    → AllSmall (spare_rows i.spare ++ olds)
small_ends pass tree olds pairs i h =
    All-from_get_or (λ (r : ℕ). r < 2 ^ 32 - 1) (spare_rows i.spare ++ olds) 0
    (λ k less. below (get_or (spare_rows i.spare ++ olds) k 0) (stands_there (spare_rows i.spare ++ olds) k less))
  where
    below : (q : ℕ) → 0 < times q (spare_rows i.spare ++ olds) → q < 2 ^ 32 - 1
    below q some =
        let a = times-++ q (spare_rows i.spare) olds in
        let b = times-++ q (spare_rows i.spare) (tree ∷ olds) in
        let held = h.backs.keeps.held q (omega arith) in
        let less = held_inside (knows pass) q held.0 held.1 in
        let p = h.teaches.2.shape.plan in
        let s = small_rows (knows pass).plan (rows_of (knows pass).plan) refl p.trees_most p.limit_most p.passes_most in
        let wide = pass.wide in
        omega arith

-- what the rows of the chain show stays while they are held

pub ends_on : (v w : View) (tree owner count : ℕ) (olds : List ℕ) (score : ℕ) (pairs : List Pair) (e : Event) → Backs v (tree ∷ olds)
    → KeepsRows v w → OnlyRows v w → EndsAs v tree owner count olds score pairs e → EndsAs w tree owner count olds score pairs e
ends_on v w tree owner count olds score pairs e b keeps only h =
    let agree : AgreeOn (shown v []) (shown w []) (tree ∷ olds) =
    λ q some. ap (λ (x : Option Row). node_of (image_of x)) (sym (keeps q (b.keeps.held q some))) in
    let anchor : row_at w tree ≡ row_at v tree = keeps tree (b.keeps.held tree (let o = one_here tree in omega arith)) in
    let on = on_right (shown v []) (shown w []) (tree ∷ []) olds agree in
    let plan : w.plan ≡ v.plan = ap (λ (x : View). x.plan) only.0 in
    let mark : w.mark ≡ v.mark = ap (λ (x : View). x.mark) only.0 in
    let state : buffered_state owner count (shown w []) olds ≡ buffered_state owner count (shown v []) olds =
    ap (λ (ps : List Pair). record { pairs = ps; mode = Buffer owner count }) (sym (on_folded (shown v []) (shown w []) owner olds on)) in
    record {
      holds = record {
        mode = ap (λ (x : Option Row). mode_of (image_of x)) anchor ∙ h.holds.mode;
        chain = subst (λ (n : Node). IsChain (shown w []) n.left olds) (on_here (shown v []) (shown w []) tree olds agree)
            (on_chain (shown v []) (shown w []) (shown v [] tree).left olds on h.holds.chain);
        held = λ q some. (let r = b.keeps.held q some in row_held w q r.0 (keeps q r ∙ r.1));
      };
      own = h.own ∙ sym mark;
      tree_is = h.tree_is;
      question = h.question;
      after = (λ j. tree_after (setting_of (plan j)) e.txn e.deed (state j)) ∙ h.after;
      reply = (λ j. replied (setting_of (plan j)) e.txn e.deed (state j)) ∙ h.reply;
    }

-- the pool's anchor is held where it is planned
pool_held : {planned : List ℕ} {c d : Nodes} {taken given : List ℕ} (P : ℕ → Type 0) (q trees : ℕ) → q ≡ trees → 0 < times q planned
    → PoolPlan P planned trees c d taken given → P q
pool_held {planned} P q trees is some (no_pool none gone out) =
    absurd (let e : times q planned ≡ times trees planned = ap (λ (n : ℕ). times n planned) is in omega arith)
pool_held P q trees is some (from_pool anchor taken given moves) = subst P (sym is) anchor

-- then the plan is one that a commit takes
module _ (v : View) (tree owner count : ℕ) (olds : List ℕ) (score : ℕ) (pairs : List Pair) (e : Event) (plan : List RowImage)
    (ends : EndsAs v tree owner count olds score pairs e) (l : LaysPairs v plan tree score olds pairs) where
  long : length l.rows ≡ length pairs
  long = sym (length-pairs l.rows) ∙ ap length l.pairs_are

  pub end_commits : (change : ℤ) → tree < v.plan.trees → change +ℤ pos (length olds) ≡ pos (length pairs)
      → (length olds < length pairs → v.licensed ≡ true) → IsCommit v.plan v e plan change
  end_commits change lt change_is licence =
      let at = subst (λ (t : ℕ). HoldsBuffer v t owner count olds × (t < v.plan.trees) × LaysOut v plan t score olds l.rows l.taken l.given)
      (sym ends.tree_is) (ends.holds, lt, l.lays) in
      laid_buffer_commits v owner count olds l.taken l.given l.rows plan e change at.0 at.1 ends.question at.2.lays l.over at.2.pool
      at.2.only
      (l.pairs_are ∙ sym (ap (λ (t : TreeState). t.pairs) ends.after))
      (subst IsTree (sym at.2.mode) tt)
      (at.2.mode ∙ sym (ap (λ (t : TreeState). t.mode) ends.after))
      ends.reply ends.own
      (change_is ∙ ap (λ (n : ℕ). pos n) (sym long))
      (λ more. licence (let n = long in omega arith))

  planned_held : (q : ℕ) → 0 < times q (planned_rows plan) → IsIn (has v) q
  planned_held q some = dite (ℕ_discrete (times q (tree ∷ olds)) 0)
      (λ z. dite (ℕ_discrete (times q l.taken) 0)
      (λ none. ⊎_elim
      (λ (is : q ≡ v.plan.trees). pool_held (IsIn (has v)) q v.plan.trees is some l.lays.pool)
      (λ (ne : (q ≢ v.plan.trees) × (one_if (nat_eq v.plan.trees q) ≡ 0)).
      absurd (let o = ne.1 in let t = times-++ q olds l.taken in let out = l.lays.only q (omega arith) in omega arith))
      (same_or_other v.plan.trees q))
      (λ more. taken_held l.lays.pool q (omega arith)))
      (λ more. ends.holds.held q (omega arith))

  pub all_planned : AllHeld v.held plan
  all_planned = all_held v.held plan (λ q some. (let r = held_row v q (planned_held q some) in (r.0, r.1)))
