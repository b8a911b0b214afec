-- A plan for a tree's anchor, the pool's and one row more.
use Rattle.std.proofs.Common.{◌≡◌, ◌≢◌, ℕ, ◌<◌, List, [], ◌∷◌, sym, ap, ◌∙◌, subst, arith}
use Rattle.std.specs.Prelude.{slice_index}
use mathlib.Core.Logic.{dite}
use native.Mathlib.Decide.{ℕ_discrete}
use Rattle.lt_rows.specs.declared.row_plan.RowPlan.{RowPlan}
use Rattle.lt_seq.specs.declared.event.Event.{Event}
use Rattle.lt_forest.specs.Counts.{times}
use Rattle.lt_forest.specs.Views.{IsIn, PlansThese, PlansOnly}
use Rattle.lt_rows.specs.declared.view.View.{View}
use Rattle.lt_rows.specs.declared.image.RowImage.{RowImage}
use Rattle.lt_rows.specs.Nodes.{node_of}
use Rattle.lt_rows.specs.Views.{row_at, committed, has, images, changed, planned_contents, planned_rows, AllHeld as AllPlanned}
use Rattle.lt_rows.specs.Lawful.{shown, shown_after}
use Rattle.lt_rows.proofs.Frames.{changed_at, changed_else}
use Rattle.lt_rows.proofs.Planned.{held_row}
use Rattle.lt_rows.proofs.Views.{committed_at}
use Rattle.lt_rows.proofs.Wide.{still_none}
use Rattle.lt_rows.proofs.ThreeRows.{is_left}
use Rattle.lt_tree.specs.States.{HoldsNone}
use Rattle.lt_chain.specs.declared.images.Images.{Images}
use Rattle.lt_chain.specs.Images.{HasImages, HoldsThree, HoldsImage, HoldsImages, AreApart, IsGone}
use Rattle.lt_chain.proofs.HoldingLaws.{one_else}

module _ (k : RowPlan) (v : View) (tree : ℕ) (i n : Images) (lt : tree < k.trees) (h : HasImages k v tree i)
    (row_a : n.anchor.row ≡ i.anchor.row) (row_p : n.pool.row ≡ i.pool.row) (row_x : n.row.row ≡ i.row.row) where
  abbrev pub planned_images : List RowImage
  planned_images = n.anchor ∷ n.pool ∷ n.row ∷ []

  at_anchor : n.anchor.row ≡ tree
  at_anchor = row_a ∙ h.anchor_row

  at_pool : n.pool.row ≡ k.trees
  at_pool = row_p ∙ h.pool_row

  pub apart : AreApart n
  apart =
      let e = at_anchor in let f = at_pool in let g = row_x in let more = h.further in
      (λ z. omega arith, λ z. omega arith, λ z. omega arith)

  pub anchor_image : images v tree ≡ i.anchor.words
  anchor_image = ap (images v) (sym h.anchor_row) ∙ h.anchor.2

  pub pool_image : images v k.trees ≡ i.pool.words
  pool_image = ap (images v) (sym h.pool_row) ∙ h.pool.2

  pub row_image : images v i.row.row ≡ i.row.words
  row_image = h.row.2

  pub has_anchor : IsIn (has v) tree
  has_anchor = subst (IsIn (has v)) h.anchor_row h.anchor.0

  pub has_pool : IsIn (has v) k.trees
  has_pool = subst (IsIn (has v)) h.pool_row h.pool.0

  pub has_row : IsIn (has v) i.row.row
  has_row = h.row.0

  abbrev c1 : ℕ → List ℕ
  c1 = changed (images v) n.anchor.row n.anchor.words

  abbrev c2 : ℕ → List ℕ
  c2 = changed c1 n.pool.row n.pool.words

  -- what the plan makes of the three
  pub after_anchor : planned_contents (images v) (n.anchor ∷ n.pool ∷ n.row ∷ []) tree ≡ n.anchor.words
  after_anchor =
      let f = h.further in let ep = at_pool in let ex = row_x in
      changed_else c2 n.row.row n.row.words tree (λ e. omega arith) ∙ (changed_else c1 n.pool.row n.pool.words tree (λ e. omega arith)
      ∙ changed_at (images v) n.anchor.row n.anchor.words tree (sym at_anchor))

  pub after_pool : planned_contents (images v) (n.anchor ∷ n.pool ∷ n.row ∷ []) k.trees ≡ n.pool.words
  after_pool =
      let f = h.further in let ex = row_x in
      changed_else c2 n.row.row n.row.words k.trees (λ e. omega arith) ∙ changed_at c1 n.pool.row n.pool.words k.trees (sym at_pool)

  pub after_row : planned_contents (images v) (n.anchor ∷ n.pool ∷ n.row ∷ []) i.row.row ≡ n.row.words
  after_row = changed_at c2 n.row.row n.row.words i.row.row (sym row_x)

  -- the links before and after
  pub anchor_link : (shown v (n.anchor ∷ n.pool ∷ n.row ∷ []) tree).left ≡ slice_index i.anchor.words 17
  anchor_link = ap (λ (ws : List ℕ). (node_of ws).left) anchor_image ∙ is_left i.anchor.words

  pub pool_link : (shown v (n.anchor ∷ n.pool ∷ n.row ∷ []) k.trees).left ≡ slice_index i.pool.words 17
  pool_link = ap (λ (ws : List ℕ). (node_of ws).left) pool_image ∙ is_left i.pool.words

  pub row_link : (shown v (n.anchor ∷ n.pool ∷ n.row ∷ []) i.row.row).left ≡ slice_index i.row.words 17
  row_link = ap (λ (ws : List ℕ). (node_of ws).left) row_image ∙ is_left i.row.words

  pub anchor_link_after : (shown_after v (n.anchor ∷ n.pool ∷ n.row ∷ []) tree).left ≡ slice_index n.anchor.words 17
  anchor_link_after = ap (λ (ws : List ℕ). (node_of ws).left) after_anchor ∙ is_left n.anchor.words

  pub pool_link_after : (shown_after v (n.anchor ∷ n.pool ∷ n.row ∷ []) k.trees).left ≡ slice_index n.pool.words 17
  pool_link_after = ap (λ (ws : List ℕ). (node_of ws).left) after_pool ∙ is_left n.pool.words

  pub row_link_after : (shown_after v (n.anchor ∷ n.pool ∷ n.row ∷ []) i.row.row).left ≡ slice_index n.row.words 17
  row_link_after = ap (λ (ws : List ℕ). (node_of ws).left) after_row ∙ is_left n.row.words

  three_held : (r : ℕ) → 0 < times r (tree ∷ k.trees ∷ i.row.row ∷ []) → IsIn (has v) r
  three_held r some = dite (ℕ_discrete r tree)
      (λ e. subst (IsIn (has v)) (sym e) has_anchor)
      (λ ne. let one = one_else r tree ne in
      dite (ℕ_discrete r k.trees)
      (λ e. subst (IsIn (has v)) (sym e) has_pool)
      (λ ne'. let two = one_else r k.trees ne' in
      dite (ℕ_discrete r i.row.row)
      (λ e. subst (IsIn (has v)) (sym e) has_row)
      (λ ne''. let last = one_else r i.row.row ne'' in absurd (omega arith))))

  pub only_these : PlansOnly (tree ∷ k.trees ∷ i.row.row ∷ []) (planned_rows (n.anchor ∷ n.pool ∷ n.row ∷ []))
  only_these r none = subst (λ (l : List ℕ). times r l ≡ 0) (λ j. sym at_anchor j ∷ sym at_pool j ∷ sym row_x j ∷ []) none

  pub these : PlansThese (IsIn (has v)) (planned_rows (n.anchor ∷ n.pool ∷ n.row ∷ [])) (tree ∷ k.trees ∷ i.row.row ∷ [])
  these = record { held = three_held; only = only_these }

  -- all rows of the plan are held
  pub all_planned : AllPlanned v.held (n.anchor ∷ n.pool ∷ n.row ∷ [])
  all_planned = (
    held_row v n.anchor.row (subst (IsIn (has v)) (sym row_a) h.anchor.0),
    (
      held_row v n.pool.row (subst (IsIn (has v)) (sym row_p) h.pool.0),
      (held_row v n.row.row (subst (IsIn (has v)) (sym row_x) h.row.0), tt),
    ),
  )

  one_after : (w : View) (front : List Event) (m : RowImage) (q : ℕ) → w ≡ committed v (n.anchor ∷ n.pool ∷ n.row ∷ []) front → IsIn (has v) q → m.row ≡ q
      → planned_contents (images v) (n.anchor ∷ n.pool ∷ n.row ∷ []) q ≡ m.words → HoldsImage w m
  one_after w front m q e held row words =
      let r = held_row v q held in
      let a = committed_at v (n.anchor ∷ n.pool ∷ n.row ∷ []) front q r.0 r.1 in
      (a.0, ap (λ (x : ℕ). row_at w x) row ∙ (ap (λ (u : View). row_at u q) e ∙ a.1), a.3 ∙ words)

  -- the rows after the commit
  pub held_after : (w : View) (front : List Event) → w ≡ committed v (n.anchor ∷ n.pool ∷ n.row ∷ []) front → HoldsImages w n
  held_after w front e = (
    one_after w front n.anchor tree e has_anchor at_anchor after_anchor,
    one_after w front n.pool k.trees e has_pool at_pool after_pool,
    one_after w front n.row i.row.row e has_row row_x after_row,
  )

  -- and once the three are given back, where no others were held
  pub none_after : (w u : View) (front : List Event) → w ≡ committed v (n.anchor ∷ n.pool ∷ n.row ∷ []) front → HoldsThree v i → IsGone u n
      → ((r : ℕ) → r ≢ n.anchor.row → r ≢ n.pool.row → r ≢ n.row.row → row_at u r ≡ row_at w r) → HoldsNone u
  none_after w u front e only gone others r = dite (ℕ_discrete r n.anchor.row)
      (λ is. ap (row_at u) is ∙ gone.0)
      (λ na. dite (ℕ_discrete r n.pool.row)
      (λ is. ap (row_at u) is ∙ gone.1)
      (λ np. dite (ℕ_discrete r n.row.row)
      (λ is. ap (row_at u) is ∙ gone.2)
      (λ nx. others r na np nx ∙ (ap (λ (x : View). row_at x r) e
      ∙ still_none v (n.anchor ∷ n.pool ∷ n.row ∷ []) [] r (only r (λ z. na (z ∙ sym row_a)) (λ z. np (z ∙ sym row_p)) (λ z. nx (z ∙ sym row_x)))))))
