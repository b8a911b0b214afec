-- A plan for a tree's anchor, the pool's and the first vacant row.
use Rattle.std.proofs.Common.{◌≡◌, ℕ, ◌+◌, ◌<◌, List, [], ◌∷◌, ◌++◌, append_assoc, length, set, get_or, refl, sym, ap, ◌∙◌, subst, arith, get_or-set_same, ne_eqb}
use Rattle.std.specs.Prelude.{Option, None, slice_index, slice_set, nat_eq}
use mathlib.Core.Logic.{dite}
use native.Mathlib.Decide.{ℕ_discrete}
use Rattle.lt_ranges.specs.Interval.{whole}
use Rattle.lt_rows.specs.declared.row_plan.RowPlan.{RowPlan}
use Rattle.lt_seq.specs.declared.event.Event.{Event}
use Rattle.lt_forest.specs.Counts.{one_if, times}
use Rattle.lt_forest.specs.Trees.{Node}
use Rattle.lt_forest.specs.Buffers.{PutsFirst}
use Rattle.lt_forest.specs.Views.{IsIn, PlansThese}
use Rattle.lt_rows.specs.declared.view.View.{View}
use Rattle.lt_rows.specs.declared.view.Row.{Row}
use Rattle.lt_rows.specs.declared.image.RowImage.{RowImage}
use Rattle.lt_rows.specs.declared.worked.Three.{Three}
use Rattle.lt_rows.specs.Nodes.{node_of}
use Rattle.lt_rows.specs.Views.{Holds, committed, has, images, image_of, changed, planned_contents, planned_rows}
use Rattle.lt_rows.specs.Lawful.{shown, shown_after}
use Rattle.lt_rows.specs.Worked.{HasRow, HasThree, IsFirst, HoldsImage, AreApart, whole_node, IsCommitOf}
use Rattle.lt_rows.proofs.Frames.{changed_at, changed_else}
use Rattle.lt_rows.proofs.Planned.{row_held}
use Rattle.lt_rows.proofs.Views.{after_commit}

pub link_left : (ws : List ℕ) (l : ℕ) → length ws ≡ 21 → (node_of (set ws 17 l)).left ≡ l
unfolding node_of
link_left ws l long = get_or-set_same ws 17 l 0 (omega arith)

pub is_left : (ws : List ℕ) → (node_of ws).left ≡ slice_index ws 17
unfolding node_of
is_left ws = refl

-- rows that are held stay so in a view with the same rows
pub row_on : (v w : View) (i : RowImage) → w.held ≡ v.held → HasRow v i → HasRow w i
row_on v w i e r = record { row = r.row; held = ap (λ (l : List (Option Row)). get_or l i.row None) e ∙ r.held; words = r.words; image_is = r.image_is }

pub three_on : (k : RowPlan) (v w : View) (tree : ℕ) (three : Three) → w.held ≡ v.held → HasThree k v tree three → HasThree k w tree three
three_on k v w tree three e h = record {
  anchor = row_on v w three.anchor e h.anchor;
  pool = row_on v w three.pool e h.pool;
  row = row_on v w three.row e h.row;
  anchor_row = h.anchor_row;
  pool_row = h.pool_row;
  further = h.further;
  inside = h.inside;
  others = λ r n n' n''. ap (λ (l : List (Option Row)). get_or l r None) e ∙ h.others r n n' n'';
}

-- a commit from a view that had seen what another had, and what it leaves once all rows are given back
pub then_ended : (k : RowPlan) (v u w z : View) (rest : List Event) (e : Event) (place : ℕ) → u.front ≡ v.front ++ rest → IsCommitOf k u w e place → z.front ≡ w.front → IsCommitOf k v z e place
then_ended k v u w z rest e place looked made same = record {
  log = made.log;
  seen = (rest ++ made.seen.0, made.seen.1 ∙ (ap (λ (l : List Event). l ++ made.seen.0) looked ∙ append_assoc v.front rest made.seen.0));
  front = same ∙ made.front;
  place_is = made.place_is;
}

module _ (k : RowPlan) (v : View) (tree : ℕ) (three : Three) (a p x : RowImage) (lt : tree < k.trees) (h : HasThree k v tree three)
    (row_a : a.row ≡ three.anchor.row) (row_p : p.row ≡ three.pool.row) (row_x : x.row ≡ three.row.row) where
  abbrev pub q : ℕ
  q = three.row.row

  abbrev pub images_of : List RowImage
  images_of = a ∷ p ∷ x ∷ []

  pub at_anchor : a.row ≡ tree
  at_anchor = row_a ∙ h.anchor_row

  pub at_pool : p.row ≡ k.trees
  at_pool = row_p ∙ h.pool_row

  pub apart : AreApart a p x
  apart =
      let e = at_anchor in let f = at_pool in let g = row_x in let more = h.further in
      (λ i. omega arith, λ i. omega arith, λ i. omega arith)

  image_at : (i : RowImage) → HasRow v i → images v i.row ≡ i.words
  image_at i r = ap image_of r.held ∙ r.image_is

  pub anchor_image : images v tree ≡ three.anchor.words
  anchor_image = ap (images v) (sym h.anchor_row) ∙ image_at three.anchor h.anchor

  pub pool_image : images v k.trees ≡ three.pool.words
  pool_image = ap (images v) (sym h.pool_row) ∙ image_at three.pool h.pool

  pub vacant_image : images v (three.row.row) ≡ three.row.words
  vacant_image = image_at three.row h.row

  pub has_anchor : IsIn (has v) tree
  has_anchor = subst (IsIn (has v)) h.anchor_row (row_held v three.anchor.row h.anchor.row h.anchor.held)

  pub has_pool : IsIn (has v) k.trees
  has_pool = subst (IsIn (has v)) h.pool_row (row_held v three.pool.row h.pool.row h.pool.held)

  pub has_vacant : IsIn (has v) (three.row.row)
  has_vacant = row_held v three.row.row h.row.row h.row.held

  abbrev c1 : ℕ → List ℕ
  c1 = changed (images v) a.row a.words

  abbrev c2 : ℕ → List ℕ
  c2 = changed c1 p.row p.words

  -- what the plan makes of the three
  pub after_anchor : planned_contents (images v) (a ∷ p ∷ x ∷ []) tree ≡ a.words
  after_anchor =
      let f = h.further in let ep = at_pool in let ex = row_x in
      changed_else c2 x.row x.words tree (λ e. omega arith) ∙ (changed_else c1 p.row p.words tree (λ e. omega arith) ∙ changed_at (images v) a.row a.words tree (sym at_anchor))

  pub after_pool : planned_contents (images v) (a ∷ p ∷ x ∷ []) k.trees ≡ p.words
  after_pool =
      let f = h.further in let ex = row_x in
      changed_else c2 x.row x.words k.trees (λ e. omega arith) ∙ changed_at c1 p.row p.words k.trees (sym at_pool)

  pub after_vacant : planned_contents (images v) (a ∷ p ∷ x ∷ []) (three.row.row) ≡ x.words
  after_vacant = changed_at c2 x.row x.words three.row.row (sym row_x)

  -- the pool's anchor leads on to the next vacant row
  pub pool_link : p.words ≡ slice_set three.pool.words 17 (slice_index three.row.words 17) → length three.pool.words ≡ 21
      → (shown_after v (a ∷ p ∷ x ∷ []) k.trees).left ≡ (shown v (a ∷ p ∷ x ∷ []) (three.row.row)).left
  pool_link words long = ap (λ (ws : List ℕ). (node_of ws).left) (after_pool ∙ words)
      ∙ (link_left three.pool.words (slice_index three.row.words 17) long ∙ (sym (is_left three.row.words) ∙ ap (λ (ws : List ℕ). (node_of ws).left) (sym vacant_image)))

  pub first_link : IsFirst three → (shown v (a ∷ p ∷ x ∷ []) k.trees).left ≡ three.row.row + 1
  first_link first = ap (λ (ws : List ℕ). (node_of ws).left) pool_image ∙ (is_left three.pool.words ∙ first)

  pub top_link_is : slice_index a.words 17 ≡ three.row.row + 1 → (shown_after v (a ∷ p ∷ x ∷ []) tree).left ≡ three.row.row + 1
  top_link_is link = ap (λ (ws : List ℕ). (node_of ws).left) after_anchor ∙ (is_left a.words ∙ link)

  -- the vacant row goes to the front of the tree's chain
  pub puts : (txn : ℕ) → IsFirst three → slice_index a.words 17 ≡ three.row.row + 1 → p.words ≡ slice_set three.pool.words 17 (slice_index three.row.words 17) → length three.pool.words ≡ 21
      → node_of x.words ≡ whole_node txn (slice_index three.anchor.words 17) → PutsFirst k.trees tree (three.row.row) txn whole (shown v (a ∷ p ∷ x ∷ [])) (shown_after v (a ∷ p ∷ x ∷ []))
  puts txn first link words long node =
      let is = ap node_of after_vacant ∙ node in
      record {
        first_vacant = first_link first;
        pool_link = pool_link words long;
        top = top_link_is link;
        owner = ap (λ (n : Node). n.owner) is;
        range_is = ap (λ (n : Node). n.range) is;
        next = ap (λ (n : Node). n.left) is ∙ (sym (is_left three.anchor.words) ∙ ap (λ (ws : List ℕ). (node_of ws).left) (sym anchor_image));
      }

  three_held : (r : ℕ) → 0 < times r (tree ∷ k.trees ∷ three.row.row ∷ []) → IsIn (has v) r
  three_held r some = dite (ℕ_discrete r tree)
      (λ e. subst (IsIn (has v)) (sym e) has_anchor)
      (λ ne. let one : one_if (nat_eq tree r) ≡ 0 = ap one_if (ne_eqb tree r (λ e. ne (sym e))) in
      dite (ℕ_discrete r k.trees)
      (λ e. subst (IsIn (has v)) (sym e) has_pool)
      (λ ne'. let two : one_if (nat_eq k.trees r) ≡ 0 = ap one_if (ne_eqb k.trees r (λ e. ne' (sym e))) in
      dite (ℕ_discrete r three.row.row)
      (λ e. subst (IsIn (has v)) (sym e) has_vacant)
      (λ ne''. let last : one_if (nat_eq three.row.row r) ≡ 0 = ap one_if (ne_eqb three.row.row r (λ e. ne'' (sym e))) in absurd (omega arith))))

  pub these : PlansThese (IsIn (has v)) (planned_rows (a ∷ p ∷ x ∷ [])) (tree ∷ k.trees ∷ three.row.row ∷ [])
  these = record {
    held = three_held;
    only = λ r none. subst (λ (l : List ℕ). times r l ≡ 0) (λ j. sym at_anchor j ∷ sym at_pool j ∷ sym row_x j ∷ []) none;
  }

  -- the rows after the commit
  pub held_after : (w : View) (front : List Event) → w ≡ committed v (a ∷ p ∷ x ∷ []) front → HoldsImage w a × HoldsImage w p × HoldsImage w x
  held_after w front e = (
    (let n = after_commit v w (a ∷ p ∷ x ∷ []) front three.anchor a.words h.anchor e (ap (planned_contents (images v) (a ∷ p ∷ x ∷ [])) h.anchor_row ∙ after_anchor) in (n.0, subst (λ (r : ℕ). Holds w r n.0) (sym row_a) n.1, n.2)),
    (let n = after_commit v w (a ∷ p ∷ x ∷ []) front three.pool p.words h.pool e (ap (planned_contents (images v) (a ∷ p ∷ x ∷ [])) h.pool_row ∙ after_pool) in (n.0, subst (λ (r : ℕ). Holds w r n.0) (sym row_p) n.1, n.2)),
    (let n = after_commit v w (a ∷ p ∷ x ∷ []) front three.row x.words h.row e after_vacant in (n.0, subst (λ (r : ℕ). Holds w r n.0) (sym row_x) n.1, n.2)),
  )
