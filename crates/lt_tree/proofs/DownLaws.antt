-- One step of a search on its way down.
use Rattle.std.proofs.Common.{◌≡◌, ◌≢◌, inl, inr, ◌⊎◌, ℕ, zero, suc, ◌+◌, ◌-◌, ◌<◌, List, [], ◌∷◌, length, set, get_or, refl, sym, ap, ◌∙◌, subst, arith}
use Rattle.std.specs.Prelude.{Option, Some, None}
use Rattle.lt_ranges.specs.Interval.{Interval}
use Rattle.lt_seq.specs.declared.event.Event.{Event}
use Rattle.lt_forest.specs.Counts.{times}
use Rattle.lt_forest.specs.Trees.{Nodes}
use Rattle.lt_forest.specs.Views.{IsIn}
use Rattle.lt_forest.specs.Links.{Slot, left_of, right_of, row_with, link_in, IsLinkOf, Leads, by_link, and_on}
use Rattle.lt_forest.proofs.NoWayBack.{placed_links}
use Rattle.lt_rows.specs.declared.view.View.{View}
use Rattle.lt_rows.specs.declared.view.Row.{Row}
use Rattle.lt_rows.specs.declared.view.SeenGap.{SeenGap}
use Rattle.lt_rows.specs.declared.image.RowImage.{RowImage}
use Rattle.lt_rows.specs.Nodes.{node_of}
use Rattle.lt_rows.specs.Views.{Holds, IsHeld, row_at, rows_of, has, image_of}
use Rattle.lt_rows.specs.Gaps.{gap_for}
use Rattle.lt_rows.specs.Rule.{Stood}
use Rattle.lt_rows.specs.Woods.{woods}
use Rattle.lt_rows.specs.Lawful.{shown}
use Rattle.lt_rows.proofs.Frames.{Some-none}
use Rattle.lt_rows.proofs.Planned.{row_held, held_row}
use Rattle.lt_rows.proofs.Lessons.{none_back}
use Rattle.lt_tree.specs.Descents.{free_rows, HasGapIn, GoesTo, Spot, at_anchor, at_row, IsAbove, Descends}
use Rattle.lt_tree.proofs.SpotLaws.{IsGapFor, spot_gap, spot_further}

-- the number of rows not held

pub free_take : (xs : List (Option Row)) (r : ℕ) (row : Row) → get_or xs r None ≡ None → r < length xs → free_rows (set xs r (Some row)) + 1 ≡ free_rows xs
free_take [] r row none lt = absurd (omega arith)
free_take (None ∷ xs) zero row none lt = omega arith
free_take (Some y ∷ xs) zero row none lt = absurd (Some-none y (sym none))
free_take (None ∷ xs) (suc r) row none lt = let i = free_take xs r row none (omega arith) in omega arith
free_take (Some y ∷ xs) (suc r) row none lt = free_take xs r row none (omega arith)

pub free_put : (xs : List (Option Row)) (r : ℕ) (row : Row) → get_or xs r None ≡ Some row → free_rows (set xs r None) ≡ free_rows xs + 1
free_put [] r row some = absurd (Some-none row some)
free_put (None ∷ xs) zero row some = absurd (Some-none row some)
free_put (Some y ∷ xs) zero row some = omega arith
free_put (None ∷ xs) (suc r) row some = let i = free_put xs r row some in omega arith
free_put (Some y ∷ xs) (suc r) row some = free_put xs r row some

-- ways

pub leads_map : (c e : Nodes) (P Q : Slot → Type 0) {q r : ℕ} → ((s : Slot) → P s → Q s × (link_in e s ≡ link_in c s)) → Leads c P q r → Leads e Q q r
leads_map c e P Q f (by_link s r p eq) = by_link s r (f s p).0 ((f s p).1 ∙ eq)
leads_map c e P Q f (and_on s r l p eq) = and_on s r (leads_map c e P Q f l) (f s p).0 ((f s p).1 ∙ eq)

module _ (v : View) (tree : ℕ) (asked : Interval) (here : RowImage) (link steps : ℕ) (above : List ℕ)
    (d : Descends v tree asked here link steps above) (lt : tree < v.plan.trees) (some : link ≢ 0) where
  abbrev log : List Event
  log = d.teaches.0

  abbrev st : Stood (woods v.plan) v (d.teaches.0)
  st = d.teaches.2

  abbrev mine : Nodes
  mine = shown v []

  abbrev r : ℕ
  r = link - 1

  link_r : (x : ℕ) → x ≡ link → x ≡ r + 1
  link_r x e = omega arith

  left_is : link ≡ (node_of here.words).left → link_in mine (left_of here.row) ≡ link
  left_is e = ap (λ (ws : List ℕ). (node_of ws).left) d.has.2 ∙ sym e

  right_is : link ≡ (node_of here.words).right → link_in mine (right_of here.row) ≡ link
  right_is e = ap (λ (ws : List ℕ). (node_of ws).right) d.has.2 ∙ sym e

  here_held : IsHeld v here.row
  here_held = held_row v here.row d.has.0

  here_image : here_held.0.image ≡ here.words
  here_image = ap image_of (sym here_held.1) ∙ d.has.2

  abbrev Further : Type 0
  Further = (v.plan.trees < r) × (r < rows_of v.plan)

  pub further : Further
  further = spot_further v log st tree lt asked here link r (link_r link refl) here_held here_image d.spot

  -- a link of a row with a gap is one of the tree
  abbrev Of : Slot → Type 0
  Of s = IsIn (has v) (row_with s) × IsLinkOf (st.forest.tree tree) s

  of : (s : Slot) → HasGapIn v tree (row_with s) → Of s × (link_in mine s ≡ link_in mine s)
  of (left_of q) h = ((row_held v q h.0 h.2, subst (λ (n : ℕ). IsLinkOf (st.forest.tree n) (left_of q)) h.4 (placed_links st.shape.forest h.1.tree q (h.1.low, h.1.high) h.1.score (st.gaps q h.0 h.1 h.2 h.3)).0), refl)
  of (right_of q) h = ((row_held v q h.0 h.2, subst (λ (n : ℕ). IsLinkOf (st.forest.tree n) (right_of q)) h.4 (placed_links st.shape.forest h.1.tree q (h.1.low, h.1.high) h.1.score (st.gaps q h.0 h.1 h.2 h.3)).1), refl)

  -- what leads to the row at which the search is, leads to the child
  abbrev ToChild : ℕ → Type 0
  ToChild q = Leads mine (λ s. HasGapIn v tree (row_with s)) q r

  child_below : (row : Row) (g : SeenGap) → Holds v here.row row → row.gap ≡ Some g → g.tree ≡ tree → GoesTo asked (node_of here.words) link → ToChild here.row
  child_below row g held gap t (inl goes) = by_link (left_of here.row) r (row, g, held, gap, t) (link_r _ (left_is goes.1))
  child_below row g held gap t (inr goes) = by_link (right_of here.row) r (row, g, held, gap, t) (link_r _ (right_is goes.1))

  child_on : (q : ℕ) (row : Row) (g : SeenGap) → Holds v here.row row → row.gap ≡ Some g → g.tree ≡ tree → GoesTo asked (node_of here.words) link → Leads mine (λ s. HasGapIn v tree (row_with s)) q here.row → ToChild q
  child_on q row g held gap t (inl goes) l = and_on (left_of here.row) r l (row, g, held, gap, t) (link_r _ (left_is goes.1))
  child_on q row g held gap t (inr goes) l = and_on (right_of here.row) r l (row, g, held, gap, t) (link_r _ (right_is goes.1))

  -- each held row is the anchor or leads to the child
  pub leads_on : (q : ℕ) → IsHeld v q → (q ≡ tree) ⊎ ToChild q
  leads_on q h = go d.spot (d.held q h)
    where
      at : (row : Row) (g : SeenGap) → Holds v here.row row → row.gap ≡ Some g → g.tree ≡ tree → GoesTo asked (node_of here.words) link → IsAbove v tree q here.row → (q ≡ tree) ⊎ ToChild q
      at row g held gap t goes (there, inl is) = inl is
      at row g held gap t goes (there, inr leads) = inr (child_on q row g held gap t goes leads.1)

      top : here.row ≡ tree → IsAbove v tree q here.row → (q ≡ tree) ⊎ ToChild q
      top is (there, inl same) = inl same
      top is (there, inr leads) = let more = leads.0 in absurd (omega arith)

      go : Spot v tree asked here link → (q ≡ here.row) ⊎ (0 < times q above) → (q ≡ tree) ⊎ ToChild q
      go (at_anchor row mode is) (inl same) = inl (same ∙ row)
      go (at_anchor row mode is) (inr more) = top row (d.kept q more)
      go (at_row row g held gap t inside further_row goes) (inl same) = inr (subst ToChild (sym same) (child_below row g held gap t goes))
      go (at_row row g held gap t inside further_row goes) (inr more) = at row g held gap t goes (d.kept q more)

  -- the child isn't held
  pub not_held : (q : ℕ) → IsHeld v q → q ≢ r
  not_held q h e = elim (leads_on q h) [
    | inl is ↦ let f = further.0 in omega arith
    | inr leads ↦ none_back v log st tree r lt (leads_map mine mine (λ s. HasGapIn v tree (row_with s)) Of of (subst (λ (n : ℕ). Leads mine (λ s. HasGapIn v tree (row_with s)) n r) e leads))
  ]

  pub child_free : row_at v r ≡ None
  child_free = go (row_at v r) refl
    where
      go : (x : Option Row) → row_at v r ≡ x → row_at v r ≡ None
      go None is = is
      go (Some row) is = absurd (not_held r (row, is) refl)

  -- the gap in which the child stands
  pub child_gap : IsGapFor tree asked (gap_for v r)
  child_gap = spot_gap v log st tree lt asked here link r (link_r link refl) here_held here_image d.spot
