-- The pool's first row stands in no chain that is held.
use Rattle.std.proofs.Common.{◌≡◌, inl, inr, ℕ, ◌+◌, ◌-◌, ◌<◌, true, List, [], ◌∷◌, sym, ap, ◌∙◌, subst, arith, eq-eqb}
use Rattle.std.specs.Prelude.{nat_eq, slice_index}
use Rattle.lt_forest.specs.Counts.{one_if, times}
use Rattle.lt_forest.specs.Trees.{Node, Nodes}
use Rattle.lt_forest.specs.Forest.{Growth, IsChain, rows_at}
use Rattle.lt_forest.specs.Links.{left_of}
use Rattle.lt_forest.specs.Views.{IsIn, AllHeld}
use Rattle.lt_forest.proofs.SameRows.{one_here}
use Rattle.lt_forest.proofs.Chains.{chain_one}
use Rattle.lt_forest.proofs.ForestLaws.{as_chain, none_else, one_place}
use Rattle.lt_forest.proofs.BuffersInView.{true_chain}
use Rattle.lt_seq.specs.History.{after}
use Rattle.lt_rows.specs.Plan.{setting_of}
use Rattle.lt_seq.specs.Table.{tree_at}
use Rattle.lt_rows.specs.declared.image.RowImage.{RowImage}
use Rattle.lt_rows.specs.declared.view.View.{View}
use Rattle.lt_rows.specs.Nodes.{node_of, nodes, modes}
use Rattle.lt_rows.specs.Views.{has, rows_of}
use Rattle.lt_rows.specs.Lawful.{shown}
use Rattle.lt_rows.specs.Teaching.{Teaches}
use Rattle.lt_rows.proofs.Planned.{view_is, mode_held}
use Rattle.lt_rows.proofs.Lessons.{names_further, of_anchor, vacant}
use Rattle.lt_rows.proofs.ThreeRows.{is_left}
use Rattle.lt_tree.specs.Puttings.{Backs}
use Rattle.lt_chain.specs.Chains.{ShowsChain}
use Rattle.lt_locktree.specs.PlannedParts.{IsLoaded}
use Rattle.lt_locktree.proofs.HeldRows.{all_in}
use Rattle.lt_locktree.proofs.EndedPlans.{loaded_link}

-- the pool's first row stands in the pool
first_in_pool : (c : Nodes) (link q : ℕ) (pool : List ℕ) → IsChain c link pool → link ≡ q + 1 → 0 < times q pool
first_in_pool c link q [] is e = absurd (omega arith)
first_in_pool c link q (r ∷ pool) is e =
    let first = is.0 in let o : one_if (nat_eq r q) ≡ 1 = ap one_if (eq-eqb r q (omega arith)) in omega arith

pub record IsFirstOf (v : View) (rows : List ℕ) (pool : RowImage) (link : ℕ) : Type 0 where
  pub some : 0 < link
  pub link_is : slice_index pool.words 17 ≡ link
  pub inside : link - 1 < rows_of v.plan
  pub apart : times (link - 1) rows ≡ 0

module _ (v : View) (tree : ℕ) (rows : List ℕ) (pool : RowImage) (lt : tree < v.plan.trees) (licensed : v.licensed ≡ true)
    (teaches : Teaches v) (shows : ShowsChain v tree rows) (loaded : IsLoaded v v.plan.trees pool)
    (backs : Backs v (pool.row ∷ tree ∷ rows)) where
  abbrev st : Rattle.lt_rows.specs.Rule.Stood (Rattle.lt_rows.specs.Woods.woods v.plan) v teaches.0
  st = teaches.2

  held : AllHeld (IsIn (has v)) (pool.row ∷ tree ∷ rows)
  held = all_in v (pool.row ∷ tree ∷ rows) backs

  pool_held : IsIn (has v) v.plan.trees
  pool_held = subst (λ (n : ℕ). IsIn (has v) n) loaded.row (held pool.row (let o = one_here pool.row in omega arith))

  chain_held : AllHeld (IsIn (has v)) (tree ∷ rows)
  chain_held q some = held q (omega arith)

  -- the chain stands in the forest
  not_in_chain : (q : ℕ) → (shown v [] v.plan.trees).left ≡ q + 1 → times q rows ≡ 0
  not_in_chain q link =
      let agree = (view_is v [] st.contents st.agrees).before in
      let f = st.forest in
      let leads = true_chain tree rows agree chain_held shows.chain in
      let mode = sym (mode_held v [] st.contents st.agrees tree (chain_held tree (let o = one_here tree in omega arith)))
      ∙ shows.buffer.2 in
      let k = as_chain (nodes st.contents) (nodes st.contents tree).left (f.tree tree) (tree_at (after (setting_of v.plan) teaches.0) tree).pairs
      (modes st.contents tree) shows.buffer.0 shows.buffer.1 mode (st.shape.forest.grown tree lt) in
      let same : k.rows ≡ rows = chain_one (nodes st.contents) (nodes st.contents tree).left k.rows rows k.leads leads in
      let there : times q (rows_at (f.tree tree)) ≡ times q rows = ap (λ (g : Growth). times q (rows_at g)) k.is ∙ ap (times q) same in
      let first = first_in_pool (nodes st.contents) (nodes st.contents v.plan.trees).left q f.pool st.shape.forest.vacant
      (ap (λ (n : Node). n.left) (sym (agree v.plan.trees pool_held)) ∙ link) in
      let one = one_place st.shape.forest tree lt q in
      omega arith

  pub is_first : (link : ℕ) → link ≡ (node_of pool.words).left → IsFirstOf v (pool.row ∷ tree ∷ rows) pool link
  is_first link is =
      let found = vacant v teaches.0 st licensed pool_held in
      let some : 0 < times v.plan.trees (pool.row ∷ tree ∷ rows) =
      subst (λ (n : ℕ). 0 < times n (pool.row ∷ tree ∷ rows)) loaded.row (let o = one_here pool.row in omega arith) in
      let read : (shown v [] v.plan.trees).left ≡ slice_index pool.words 17 =
      loaded_link v (pool.row ∷ tree ∷ rows) v.plan.trees pool backs.keeps some loaded in
      let shows_first : (shown v [] v.plan.trees).left ≡ found.0 + 1 = found.1 in
      let link_is : link ≡ slice_index pool.words 17 = is ∙ is_left pool.words in
      let same : link - 1 ≡ found.0 = omega arith in
      elim (names_further v teaches.0 st (left_of v.plan.trees) pool_held (of_anchor v teaches.0 st v.plan.trees (omega arith))) [
        | inl z ↦ absurd (omega arith)
        | inr x ↦
            let named = x.1 in let far = x.2 in let near = x.3 in
            record {
              some = omega arith;
              link_is = sym link_is;
              inside = omega arith;
              apart =
                  let one : one_if (nat_eq pool.row (link - 1)) ≡ 0 =
                  none_else (link - 1) pool.row (λ e. (let r = loaded.row in omega arith)) in
                  let two : one_if (nat_eq tree (link - 1)) ≡ 0 = none_else (link - 1) tree (λ e. omega arith) in
                  let three : times (link - 1) rows ≡ 0 = not_in_chain (link - 1) (omega arith) in
                  omega arith;
            }
      ]
