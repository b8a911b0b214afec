-- The child's child on a side, which is taken besides a row and its child.
use Rattle.std.proofs.Common.{◌≡◌, ◌≢◌, inl, inr, ℕ, ◌+◌, ◌<◌, List, [], refl, sym, ap, ◌∙◌, subst, arith}
use Rattle.std.specs.Prelude.{Option, Some, None}
use mathlib.Core.Logic.{dite}
use native.Mathlib.Decide.{ℕ_discrete}
use Rattle.lt_ranges.specs.Interval.{Interval}
use Rattle.lt_rows.specs.declared.row_plan.RowPlan.{RowPlan}
use Rattle.lt_forest.specs.Trees.{Node, Nodes}
use Rattle.lt_forest.specs.Views.{IsIn}
use Rattle.lt_forest.specs.Links.{Slot, left_of, right_of, row_with, link_in, IsLink, IsLinkOf, Leads, by_link, and_on}
use Rattle.lt_forest.proofs.NoWayBack.{placed_links}
use Rattle.lt_rows.specs.declared.view.View.{View}
use Rattle.lt_rows.specs.declared.view.Row.{Row}
use Rattle.lt_rows.specs.declared.view.SeenGap.{SeenGap}
use Rattle.lt_rows.specs.declared.image.RowImage.{RowImage}
use Rattle.lt_rows.specs.Nodes.{node_of}
use Rattle.lt_rows.specs.Views.{Holds, IsHeld, row_at, rows_of, has, words_of, image_of}
use Rattle.lt_rows.specs.Gaps.{gap_for}
use Rattle.lt_rows.specs.Rule.{Stood}
use Rattle.lt_rows.specs.Woods.{woods}
use Rattle.lt_rows.specs.Lawful.{shown}
use Rattle.lt_rows.specs.Teaching.{Teaches}
use Rattle.lt_rows.proofs.Planned.{row_held, held_row}
use Rattle.lt_rows.proofs.Lessons.{names_further, none_back, of_gap}
use Rattle.lt_rows.proofs.Gapped.{gap_at_left, gap_at_right}
use Rattle.lt_rows.proofs.StepLaws.{taken_row_is_held, gathering_is_kept}
use Rattle.lt_tree.specs.declared.estimates.Side.{Side}
use Rattle.lt_tree.specs.declared.estimates.Side.TheVariants.{Left, Right}
use Rattle.lt_tree.specs.States.{OnlyMet, HasWords}
use Rattle.lt_tree.specs.Descents.{HasGapIn, Spot, at_anchor, at_row, free_rows}
use Rattle.lt_tree.specs.Turnings.{link_of, AllLinksSmall, HasGapAround, HoldsPair, TakesDeeper, HoldsThree}
use Rattle.lt_tree.proofs.ViewLaws.{met_rows, met_gathers, has_loaded}
use Rattle.lt_tree.proofs.DownLaws.{free_take}
use Rattle.lt_tree.proofs.StepLaws.{has_on, spot_on}

abbrev pub slot_on : Side → ℕ → Slot
slot_on Left r = left_of r
slot_on Right r = right_of r

pub with_slot : (s : Side) (r : ℕ) → row_with (slot_on s r) ≡ r
with_slot Left r = refl
with_slot Right r = refl

pub slot_link : (c : Nodes) (s : Side) (r : ℕ) (n : Node) → c r ≡ n → link_in c (slot_on s r) ≡ link_of s n
slot_link c Left r n e = ap (λ (m : Node). m.left) e
slot_link c Right r n e = ap (λ (m : Node). m.right) e

-- the same gap in a view with the same row
pub gap_on : (v w : View) (tree : ℕ) (asked : Interval) (r : ℕ) → row_at w r ≡ row_at v r → HasGapAround v tree asked r → HasGapAround w tree asked r
gap_on v w tree asked r e g = (g.0, g.1, e ∙ g.2, g.3, g.4, g.5)

pub gap_in : (v : View) (tree : ℕ) (asked : Interval) (r : ℕ) → HasGapAround v tree asked r → HasGapIn v tree r
gap_in v tree asked r g = (g.0, g.1, g.2, g.3, g.4)

-- links of a row with a gap
module _ (v : View) (t : Teaches v) (tree r : ℕ) (gap : HasGapIn v tree r) (words : List ℕ) (h : HasWords v r words) where
  abbrev st : Stood (woods v.plan) v (t.0)
  st = t.2

  pub of_link : (s : Side) → IsLink v.plan.trees st.forest (slot_on s r)
  of_link Left = (of_gap v t.0 t.2 r gap.0 gap.1 gap.2 gap.3).0
  of_link Right = (of_gap v t.0 t.2 r gap.0 gap.1 gap.2 gap.3).1

  of_tree : (s : Side) → IsLinkOf (st.forest.tree tree) (slot_on s r)
  of_tree Left = subst (λ (n : ℕ). IsLinkOf (st.forest.tree n) (left_of r)) gap.4
      (placed_links st.shape.forest gap.1.tree r (gap.1.low, gap.1.high) gap.1.score (st.gaps r gap.0 gap.1 gap.2 gap.3)).0
  of_tree Right = subst (λ (n : ℕ). IsLinkOf (st.forest.tree n) (right_of r)) gap.4
      (placed_links st.shape.forest gap.1.tree r (gap.1.low, gap.1.high) gap.1.score (st.gaps r gap.0 gap.1 gap.2 gap.3)).1

  pub is_in : (s : Side) → IsIn (has v) (row_with (slot_on s r))
  is_in s = subst (IsIn (has v)) (sym (with_slot s r)) h.0

  pub link_is : (s : Side) → link_in (shown v []) (slot_on s r) ≡ link_of s (node_of words)
  link_is s = slot_link (shown v []) s r (node_of words) (ap node_of h.2)

  -- what a link names
  pub link_further : (s : Side) (q : ℕ) → link_of s (node_of words) ≡ q + 1 → (v.plan.trees < q) × (q < rows_of v.plan)
  link_further s q e =
      let same = link_is s in
      elim (names_further v t.0 t.2 (slot_on s r) (is_in s) (of_link s)) [
        | inl z ↦ absurd (omega arith)
        | inr x ↦ let is = x.1 in let more = x.2 in let less = x.3 in (omega arith, omega arith)
      ]

  pub link_small : (s : Side) → rows_of v.plan < 4294967296 → link_of s (node_of words) < 4294967296
  link_small s few =
      let same = link_is s in
      elim (names_further v t.0 t.2 (slot_on s r) (is_in s) (of_link s)) [
        | inl z ↦ omega arith
        | inr x ↦ let is = x.1 in let less = x.3 in omega arith
      ]

  pub links_small : rows_of v.plan < 4294967296 → AllLinksSmall (node_of words)
  links_small few = (link_small Left few, link_small Right few)

  -- one link of a way
  pub leads_by : (s : Side) (q : ℕ) → link_of s (node_of words) ≡ q + 1
      → Leads (shown v []) (λ l. IsIn (has v) (row_with l) × IsLinkOf (st.forest.tree tree) l) r q
  leads_by s q e = subst (λ (n : ℕ). Leads (shown v []) (λ l. IsIn (has v) (row_with l) × IsLinkOf (st.forest.tree tree) l) n q) (with_slot s r)
      (by_link (slot_on s r) q (is_in s, of_tree s) (link_is s ∙ e))

  pub leads_then : (p : ℕ) (s : Side) (q : ℕ) → link_of s (node_of words) ≡ q + 1
      → Leads (shown v []) (λ l. IsIn (has v) (row_with l) × IsLinkOf (st.forest.tree tree) l) p r
      → Leads (shown v []) (λ l. IsIn (has v) (row_with l) × IsLinkOf (st.forest.tree tree) l) p q
  leads_then p s q e way =
      and_on (slot_on s r) q (subst (Leads (shown v []) (λ l. IsIn (has v) (row_with l) × IsLinkOf (st.forest.tree tree) l) p) (sym (with_slot s r)) way)
      (is_in s, of_tree s) (link_is s ∙ e)

-- the pair is held still where others were met
pub pair_met : (v w : View) (tree : ℕ) (asked : Interval) (here child : RowImage) → OnlyMet v w → HoldsPair v tree asked here child → HoldsPair w tree asked here child
pair_met v w tree asked here child m p = record {
  has = has_on v w here.row here.words (met_rows v w here.row m) p.has;
  child_has = has_on v w child.row child.words (met_rows v w child.row m) p.child_has;
  teaches = subst Teaches (sym m.0) (
    p.teaches.0,
    p.teaches.1,
    record {
      forest = p.teaches.2.forest;
      contents = p.teaches.2.contents;
      shape = p.teaches.2.shape;
      agrees = p.teaches.2.agrees;
      gaps = p.teaches.2.gaps;
      licence = p.teaches.2.licence;
    },
  );
  spot = spot_on v w tree asked here (child.row + 1) (ap (λ (x : View). x.plan) m.0) (met_rows v w here.row m) p.spot;
  gap = gap_on v w tree asked child.row (met_rows v w child.row m) p.gap;
  further = subst (λ (k : RowPlan). k.trees < child.row) (sym (ap (λ (x : View). x.plan) m.0)) p.further;
  apart = p.apart;
  held = λ q h. p.held q (h.0, sym (met_rows v w q m) ∙ h.1);
  gathers = met_gathers v w m p.gathers;
}

pub met_free : (v w : View) → OnlyMet v w → free_rows w.held ≡ free_rows v.held
met_free v w m = ap (λ (x : View). free_rows x.held) m.0

module _ (v : View) (tree : ℕ) (asked : Interval) (here child : RowImage) (p : HoldsPair v tree asked here child) (lt : tree < v.plan.trees)
    (side : Side) (low : ℕ) (link : link_of side (node_of child.words) ≡ low + 1) where
  abbrev child_gap : HasGapIn v tree child.row
  child_gap = (p.gap.0, p.gap.1, p.gap.2, p.gap.3, p.gap.4)

  pub low_further : (v.plan.trees < low) × (low < rows_of v.plan)
  low_further = link_further v p.teaches tree child.row child_gap child.words p.child_has side low link

  abbrev Way : ℕ → ℕ → Type 0
  Way q r = Leads (shown v []) (λ l. IsIn (has v) (row_with l) × IsLinkOf (p.teaches.2.forest.tree tree) l) q r

  way : Way child.row low
  way = leads_by v p.teaches tree child.row child_gap child.words p.child_has side low link

  way_on : (q : ℕ) → Way q child.row → Way q low
  way_on q w = leads_then v p.teaches tree child.row child_gap child.words p.child_has q side low link w

  here_apart : here.row ≢ low
  here_apart e = go p.spot
    where
      round : (row : Row) (g : SeenGap) → Holds v here.row row → row.gap ≡ Some g → g.tree ≡ tree → (s : Side) → link_of s (node_of here.words) ≡ child.row + 1 → ⊥
      round row g held gap t s is =
          none_back v p.teaches.0 p.teaches.2 tree low lt
          (subst (λ (n : ℕ). Way n low) e (way_on here.row (leads_by v p.teaches tree here.row (row, g, held, gap, t) here.words p.has s child.row is)))

      go : Spot v tree asked here (child.row + 1) → ⊥
      go (at_anchor row mode is) = let f = low_further.0 in absurd (omega arith)
      go (at_row row g held gap t inside more (inl goes)) = round row g held gap t Left (sym goes.1)
      go (at_row row g held gap t inside more (inr goes)) = round row g held gap t Right (sym goes.1)

  child_apart : child.row ≢ low
  child_apart e = none_back v p.teaches.0 p.teaches.2 tree low lt (subst (λ (n : ℕ). Way n low) e way)

  pub low_not_held : (q : ℕ) → IsHeld v q → q ≢ low
  low_not_held q h e = elim (p.held q h) [ inl is ↦ child_apart (sym is ∙ e) | inr is ↦ here_apart (sym is ∙ e) ]

  pub low_free : row_at v low ≡ None
  low_free = go (row_at v low) refl
    where
      go : (x : Option Row) → row_at v low ≡ x → row_at v low ≡ None
      go None is = is
      go (Some row) is = absurd (low_not_held low (row, is) refl)

  -- the gap that a take finds
  pub low_gap_is : (g : SeenGap) × (gap_for v low ≡ Some g) × (g.tree ≡ tree)
  low_gap_is = go side link
    where
      image_is : p.gap.0.image ≡ child.words
      image_is = ap image_of (sym p.gap.2) ∙ p.child_has.2

      go : (s : Side) → link_of s (node_of child.words) ≡ low + 1 → (g : SeenGap) × (gap_for v low ≡ Some g) × (g.tree ≡ tree)
      go Left e = (
        record p.gap.1 { high = Some (node_of p.gap.0.image).range.left },
        gap_at_left v p.teaches.0 p.teaches.2 low child.row p.gap.0 p.gap.1 (let f = p.further in omega arith) p.gap.2 p.gap.3 (ap (λ (ws : List ℕ). (node_of ws).left) image_is ∙ e),
        p.gap.4,
      )
      go Right e = (
        record p.gap.1 { low = Some (node_of p.gap.0.image).range.right },
        gap_at_right v p.teaches.0 p.teaches.2 low child.row p.gap.0 p.gap.1 (let f = p.further in omega arith) p.gap.2 p.gap.3 (ap (λ (ws : List ℕ). (node_of ws).right) image_is ∙ e),
        p.gap.4,
      )

-- it is taken and loaded
module _ (v w : View) (tree : ℕ) (asked : Interval) (here child : RowImage) (p : HoldsPair v tree asked here child) (lt : tree < v.plan.trees)
    (side : Side) (low : RowImage) (t : TakesDeeper v w child side low) where
  taken : Holds w low.row (record { words = t.tries.0; image = t.tries.0; gap = gap_for v low.row }) × ((q : ℕ) → q ≢ low.row → row_at w q ≡ row_at v q)
  taken = taken_row_is_held low.row v w t.tries

  pub deeper_plan : w.plan ≡ v.plan
  deeper_plan = ap (λ (x : View). x.plan) t.tries.3

  kept : (q : ℕ) → IsHeld v q → row_at w q ≡ row_at v q
  kept q h = taken.1 q (low_not_held v tree asked here child p lt side low.row t.link q h)

  here_kept : row_at w here.row ≡ row_at v here.row
  here_kept = kept here.row (held_row v here.row p.has.0)

  child_kept : row_at w child.row ≡ row_at v child.row
  child_kept = kept child.row (held_row v child.row p.child_has.0)

  low_apart_from : (q : ℕ) → IsHeld v q → low.row ≢ q
  low_apart_from q h e = low_not_held v tree asked here child p lt side low.row t.link q h (sym e)

  pub holds_three : HoldsThree w tree asked here child side low
  holds_three =
      let f = low_further v tree asked here child p lt side low.row t.link in
      let g = low_gap_is v tree asked here child p lt side low.row t.link in
      record {
        has = has_on v w here.row here.words here_kept p.has;
        child_has = has_on v w child.row child.words child_kept p.child_has;
        low_has = has_loaded w low.row t.tries.0 low.words t.words (row_held w low.row _ taken.0, ap words_of taken.0, ap image_of taken.0);
        teaches = t.teaches;
        spot = spot_on v w tree asked here (child.row + 1) deeper_plan here_kept p.spot;
        gap = gap_on v w tree asked child.row child_kept p.gap;
        low_gap = (record { words = t.tries.0; image = t.tries.0; gap = gap_for v low.row }, g.0, taken.0, g.1, g.2);
        link = t.link;
        further = (
          subst (λ (k : RowPlan). k.trees < child.row) (sym deeper_plan) p.further,
          subst (λ (k : RowPlan). k.trees < low.row) (sym deeper_plan) f.0,
        );
        apart = p.apart;
        low_apart = (low_apart_from here.row (held_row v here.row p.has.0), low_apart_from child.row (held_row v child.row p.child_has.0));
        held = λ q h. dite (ℕ_discrete q low.row) (λ is. inl is) (λ ne. inr (p.held q (h.0, sym (taken.1 q ne) ∙ h.1)));
        gathers = (gathering_is_kept low.row v w p.gathers).0 t.tries;
      }

  pub deeper_free : free_rows w.held + 1 ≡ free_rows v.held
  deeper_free =
      let new : Row = record { words = t.tries.0; image = t.tries.0; gap = gap_for v low.row } in
      ap (λ (x : View). free_rows x.held + 1) t.tries.3
      ∙ free_take v.held low.row new (low_free v tree asked here child p lt side low.row t.link) t.tries.2
