-- What a step down leaves: the child is taken, and then the parent is put or kept.
use Rattle.std.proofs.Common.{◌≡◌, ◌≢◌, inl, inr, ◌⊎◌, ℕ, ◌+◌, ◌-◌, ◌<◌, ◌≤◌, Bool, true, false, List, [], set, sym, ap, ◌∙◌, subst, arith, get_or-set_same, get_or-set_other}
use Rattle.std.specs.Prelude.{Option, Some, None}
use mathlib.Core.Logic.{dite}
use native.Mathlib.Decide.{ℕ_discrete}
use Rattle.lt_ranges.specs.Interval.{Interval}
use Rattle.lt_rows.specs.declared.row_plan.RowPlan.{RowPlan}
use Rattle.lt_forest.specs.Counts.{one_if, times}
use Rattle.lt_forest.specs.Links.{Slot, left_of, right_of, row_with, link_in, Leads}
use Rattle.lt_rows.specs.declared.view.View.{View}
use Rattle.lt_rows.specs.declared.view.Row.{Row}
use Rattle.lt_rows.specs.declared.image.RowImage.{RowImage}
use Rattle.lt_rows.specs.declared.take.Take.TheVariants.{Taken}
use Rattle.lt_rows.specs.Nodes.{node_of}
use Rattle.lt_rows.specs.Views.{Holds, IsHeld, row_at, is_some, words_of, image_of, with_row}
use Rattle.lt_rows.specs.Gaps.{gap_for}
use Rattle.lt_rows.specs.Lawful.{shown}
use Rattle.lt_rows.specs.Teaching.{Teaches}
use Rattle.lt_rows.proofs.Frames.{Some-none}
use Rattle.lt_rows.proofs.Planned.{held_row}
use Rattle.lt_tree.specs.States.{OnlyMet, Seizes, HasWords}
use Rattle.lt_tree.specs.Descents.{free_rows, HasGapIn, Spot, at_anchor, at_row, Descends}
use Rattle.lt_tree.specs.Turnings.{HoldsPath}
use Rattle.lt_rows.proofs.Loops.{held_inside}
use Rattle.lt_tree.proofs.ViewLaws.{met_rows, seized_else, seized_has, has_loaded, seized_gathers}
use Rattle.lt_rows.specs.Handles.{IsGathering}
use Rattle.lt_tree.proofs.DownLaws.{free_take, free_put, leads_map, further, leads_on, not_held, child_free, child_gap}

one_most : (b : Bool) → one_if b ≤ 1
one_most true = omega arith
one_most false = omega arith

abbrev pub HasEntry : Option Row → List ℕ → Type 0
HasEntry x ws = (is_some x ≡ true) × (words_of x ≡ ws) × (image_of x ≡ ws)

pub has_on : (v w : View) (q : ℕ) (ws : List ℕ) → row_at w q ≡ row_at v q → HasWords v q ws → HasWords w q ws
has_on v w q ws e h = subst (λ (x : Option Row). HasEntry x ws) (sym e) h

pub spot_on : (v w : View) (tree : ℕ) (asked : Interval) (here : RowImage) (link : ℕ) → w.plan ≡ v.plan → row_at w here.row ≡ row_at v here.row → Spot v tree asked here link → Spot w tree asked here link
spot_on v w tree asked here link plan_is e (at_anchor row mode is) = at_anchor row mode is
spot_on v w tree asked here link plan_is e (at_row row g held gap t inside more goes) = at_row row g (e ∙ held) gap t inside (subst (λ (k : RowPlan). k.trees < here.row) (sym plan_is) more) goes

-- rows of a view with one row less

module _ (w u : View) (p : ℕ) (e : u ≡ with_row w p None) (there : (row : Row) × Holds w p row) where
  pub put_plan : u.plan ≡ w.plan
  put_plan = ap (λ (x : View). x.plan) e

  pub put_else : (q : ℕ) → q ≢ p → row_at u q ≡ row_at w q
  put_else q ne = ap (λ (x : View). row_at x q) e ∙ get_or-set_other w.held p q None None ne

  pub put_here : row_at u p ≡ None
  put_here = ap (λ (x : View). row_at x p) e ∙ get_or-set_same w.held p None None (held_inside w p there.0 there.1)

  pub put_differs : (q : ℕ) → IsHeld u q → q ≢ p
  put_differs q h is = Some-none h.0 (sym put_here ∙ subst (λ (n : ℕ). row_at u n ≡ Some h.0) is h.1)

  pub put_back : (q : ℕ) (row : Row) → Holds u q row → Holds w q row
  put_back q row h = sym (put_else q (put_differs q (row, h))) ∙ h

  pub put_teaches : Teaches w → Teaches u
  put_teaches t = subst Teaches (sym e) (
    t.0,
    t.1,
    record {
      forest = t.2.forest;
      contents = t.2.contents;
      shape = t.2.shape;
      agrees = λ q row h. t.2.agrees q row (back q row h);
      gaps = λ q row g h is. t.2.gaps q row g (back q row h) is;
      licence = t.2.licence;
    },
  )
    where
      back : (q : ℕ) (row : Row) → Holds (with_row w p None) q row → Holds w q row
      back q row h = put_back q row (subst (λ (x : View). Holds x q row) (sym e) h)

  pub put_free : free_rows u.held ≡ free_rows w.held + 1
  put_free = ap (λ (x : View). free_rows x.held) e ∙ free_put w.held p there.0 there.1

pub met_gap : (v u : View) (q : ℕ) → OnlyMet v u → gap_for u q ≡ gap_for v q
unfolding gap_for
met_gap v u q m = ap (λ (x : View). gap_for x q) m.0

-- the child is taken and loaded
pub record TakesChild (v w : View) (tree : ℕ) (asked : Interval) (here : RowImage) (link steps : ℕ) (above : List ℕ) (child : RowImage) : Type 0 where
  pub was : Descends v tree asked here link steps above
  pub in_range : tree < v.plan.trees
  pub some : link ≢ 0
  pub seizes : Seizes (link - 1) v w Taken
  pub row_is : child.row ≡ link - 1
  pub words_is : child.words ≡ words_of (row_at w (link - 1))
  pub teaches : Teaches w

pub took_child : {v x w : View} {tree : ℕ} {asked : Interval} {here : RowImage} {link steps : ℕ} {above : List ℕ} {child : RowImage} (k : RowPlan)
    → tree < k.trees → v.plan ≡ k → Descends v tree asked here link steps above → link ≢ 0 → Seizes (link - 1) v x Taken → w ≡ x
    → child.row ≡ link - 1 → child.words ≡ words_of (row_at x (link - 1)) → Teaches x
    → TakesChild v w tree asked here link steps above child
took_child {v} {x} {w} {tree} {asked} {here} {link} {steps} {above} {child} k lt is d some s same row words teaches = record {
  was = d;
  in_range = subst (λ (p : RowPlan). tree < p.trees) (sym is) lt;
  some = some;
  seizes = subst (λ (u : View). Seizes (link - 1) v u Taken) (sym same) s;
  row_is = row;
  words_is = words ∙ ap (λ (u : View). words_of (row_at u (link - 1))) (sym same);
  teaches = subst Teaches (sym same) teaches;
}

module _ {v w : View} {tree : ℕ} {asked : Interval} {here : RowImage} {link steps : ℕ} {above : List ℕ} {child : RowImage}
    (t : TakesChild v w tree asked here link steps above child) where
  plan_is : w.plan ≡ v.plan
  plan_is = ap (λ (x : View). x.plan) t.seizes.2.3 ∙ ap (λ (x : View). x.plan) t.seizes.1.0

  abbrev child_row : Row
  child_row = record { words = t.seizes.2.0; image = t.seizes.2.0; gap = gap_for t.seizes.0 (link - 1) }

  child_at : Holds w (link - 1) child_row
  child_at = ap (λ (x : View). row_at x (link - 1)) t.seizes.2.3 ∙ get_or-set_same t.seizes.0.held (link - 1) (Some child_row) None t.seizes.2.2

  child_here : Holds w child.row child_row
  child_here = subst (λ (n : ℕ). Holds w n child_row) (sym t.row_is) child_at

  pub child_has : HasWords w child.row child.words
  child_has = subst (λ (n : ℕ). HasWords w n child.words) (sym t.row_is) (has_loaded w (link - 1) t.seizes.2.0 child.words t.words_is (seized_has (link - 1) v w t.seizes))

  pub held_before : (q : ℕ) → IsHeld v q → row_at w q ≡ row_at v q
  held_before q h = seized_else (link - 1) v w t.seizes q (not_held v tree asked here link steps above t.was t.in_range t.some q h)

  pub here_held : IsHeld v here.row
  here_held = held_row v here.row t.was.has.0

  pub here_has : HasWords w here.row here.words
  here_has = has_on v w here.row here.words (held_before here.row here_held) t.was.has

  pub here_spot : Spot w tree asked here link
  here_spot = spot_on v w tree asked here link plan_is (held_before here.row here_held) t.was.spot

  pub held_then : (q : ℕ) → IsHeld w q → (q ≡ child.row) ⊎ ((q ≡ here.row) ⊎ (0 < times q above))
  held_then q h = dite (ℕ_discrete q (link - 1))
      (λ is. inl (is ∙ sym t.row_is))
      (λ ne. inr (t.was.held q (h.0, sym (seized_else (link - 1) v w t.seizes q ne) ∙ h.1)))

  child_further : w.plan.trees < child.row
  child_further = subst (λ (n : ℕ). w.plan.trees < n) (sym t.row_is) (subst (λ (k : RowPlan). k.trees < link - 1) (sym plan_is) (further v tree asked here link steps above t.was t.in_range t.some).0)

  pub apart : child.row ≢ here.row
  apart e = not_held v tree asked here link steps above t.was t.in_range t.some here.row here_held (sym e ∙ t.row_is)

  pub gathers_w : IsGathering w
  gathers_w = seized_gathers (link - 1) v w t.seizes t.was.gathers

  child_not_above : times child.row above ≡ 0
  child_not_above = dite (ℕ_discrete (times child.row above) 0) (λ z. z)
      (λ ne. absurd (not_held v tree asked here link steps above t.was t.in_range t.some child.row (t.was.kept child.row (omega arith)).0 t.row_is))

  pub above_held : (q : ℕ) → 0 < times q above → IsHeld w q
  above_held q more = let h = (t.was.kept q more).0 in (h.0, held_before q h ∙ h.1)

  pub taken_free : free_rows w.held + 1 ≡ free_rows v.held
  taken_free =
      let same : free_rows t.seizes.0.held ≡ free_rows v.held = ap (λ (x : View). free_rows x.held) t.seizes.1.0 in
      let now : free_rows w.held ≡ free_rows (set t.seizes.0.held (link - 1) (Some child_row)) = ap (λ (x : View). free_rows x.held) t.seizes.2.3 in
      let f = free_take t.seizes.0.held (link - 1) child_row (met_rows v t.seizes.0 (link - 1) t.seizes.1 ∙ child_free v tree asked here link steps above t.was t.in_range t.some) t.seizes.2.2 in
      omega arith

  -- what was held leads to the child
  same_gap : (q : Slot) → HasGapIn v tree (row_with q) → HasGapIn w tree (row_with q) × (link_in (shown w []) q ≡ link_in (shown v []) q)
  same_gap (left_of q) h = let e = held_before q (h.0, h.2) in ((h.0, h.1, e ∙ h.2, h.3, h.4), ap (λ (x : Option Row). (node_of (image_of x)).left) e)
  same_gap (right_of q) h = let e = held_before q (h.0, h.2) in ((h.0, h.1, e ∙ h.2, h.3, h.4), ap (λ (x : Option Row). (node_of (image_of x)).right) e)

  leads_now : (q : ℕ) → Leads (shown v []) (λ x. HasGapIn v tree (row_with x)) q (link - 1) → Leads (shown w []) (λ x. HasGapIn w tree (row_with x)) q child.row
  leads_now q l = subst (Leads (shown w []) (λ x. HasGapIn w tree (row_with x)) q) (sym t.row_is) (leads_map (shown v []) (shown w []) (λ x. HasGapIn v tree (row_with x)) (λ x. HasGapIn w tree (row_with x)) same_gap l)

  held_leads : (q : ℕ) → IsHeld w q → q ≢ child.row → (q ≡ tree) ⊎ Leads (shown w []) (λ x. HasGapIn w tree (row_with x)) q child.row
  held_leads q h ne =
      let before : IsHeld v q = (h.0, sym (seized_else (link - 1) v w t.seizes q (λ e. ne (e ∙ sym t.row_is))) ∙ h.1) in
      elim (leads_on v tree asked here link steps above t.was t.in_range t.some q before) [ inl is ↦ inl is | inr l ↦ inr (leads_now q l) ]

  pub path_taken : HoldsPath w tree asked here child steps above
  path_taken =
      let g = child_gap v tree asked here link steps above t.was t.in_range t.some in
      let is : link ≡ child.row + 1 = (let r = t.row_is in let z = t.some in omega arith) in
      record {
        has = here_has;
        child_has = child_has;
        teaches = t.teaches;
        spot = subst (Spot w tree asked here) is here_spot;
        gap = (child_row, g.0, child_here, met_gap v t.seizes.0 (link - 1) t.seizes.1 ∙ g.1, g.2, g.3);
        further = child_further;
        apart = apart;
        held = held_then;
        leads = λ z. held_leads;
        kept = above_held;
        once = t.was.once;
        here_above = t.was.apart;
        child_above = child_not_above;
        first = t.was.first;
        gathers = gathers_w;
      }
