-- A row that is settled with another estimate.
use Rattle.std.proofs.Common.{◌≡◌, ◌≢◌, inl, inr, ℕ, ◌+◌, ◌<◌, [], ◌∷◌, refl, sym, ap, ◌∙◌, subst, arith, ne_eqb}
use Rattle.std.specs.Prelude.{Some, nat_eq}
use Rattle.lt_ranges.specs.Interval.{Interval}
use Rattle.lt_forest.specs.Counts.{one_if, times}
use Rattle.lt_forest.specs.Trees.{Node}
use Rattle.lt_forest.specs.Cuts.{Cut, end, held}
use Rattle.lt_forest.specs.Plans.{from_row}
use Rattle.lt_forest.specs.Views.{IsIn}
use Rattle.lt_forest.proofs.PublicLaws.{same_order_lays}
use Rattle.lt_rows.specs.declared.view.View.{View}
use Rattle.lt_rows.specs.declared.view.Row.{Row}
use Rattle.lt_rows.specs.declared.view.SeenGap.{SeenGap}
use Rattle.lt_rows.specs.declared.image.RowImage.{RowImage}
use Rattle.lt_rows.specs.Nodes.{node_of}
use Rattle.lt_rows.specs.Views.{Holds, has, images, planned_rows}
use Rattle.lt_rows.specs.Lawful.{shown, shown_after, IsSettle}
use Rattle.lt_rows.proofs.Frames.{changed_at}
use Rattle.lt_tree.specs.Descents.{Spot, at_anchor, at_row}
use Rattle.lt_tree.specs.Turnings.{HoldsPair, IsMeasured}

is_here : (r a : ℕ) → 0 < times r (a ∷ []) → r ≡ a
is_here r a some = grind arith

module _ (v : View) (tree : ℕ) (asked : Interval) (here child now : RowImage) (p : HoldsPair v tree asked here child) (lt : tree < v.plan.trees)
    (m : IsMeasured tree here now) (no_anchor : here.row ≢ tree) where
  abbrev n : Node
  n = node_of here.words

  abbrev cut : Cut
  cut = held (end n.left) here.row (end n.right)

  was : shown v [] here.row ≡ n
  was = ap node_of p.has.2

  is : shown_after v (now ∷ []) here.row ≡ n
  is = ap node_of (changed_at (images v) now.row now.words here.row (sym m.0)) ∙ m.1

  planned_are : (q : ℕ) → times q (planned_rows (now ∷ [])) ≡ times q (here.row ∷ [])
  planned_are q = ap (λ (r : ℕ). times q (r ∷ [])) m.0

  not_planned : (q : ℕ) → q ≢ here.row → times q (planned_rows (now ∷ [])) ≡ 0
  not_planned q ne = let a = planned_are q in let z : one_if (nat_eq here.row q) ≡ 0 = ap one_if (ne_eqb here.row q (λ e. ne (sym e))) in omega arith

  settles_on : (row : Row) (g : SeenGap) → Holds v here.row row → row.gap ≡ Some g → g.tree ≡ tree → v.plan.trees < here.row → IsSettle v.plan v (now ∷ [])
  settles_on row g there gap same more =
      let none = not_planned tree (λ e. no_anchor (sym e)) in
      let lays = same_order_lays (has v) (planned_rows (now ∷ [])) v.plan.trees tree (from_row here.row (g.low, g.high)) (shown v []) (shown_after v (now ∷ []))
      cut cut
      record {
        top_held = tt;
        shows = (refl, ap (λ (x : Node). x.left) was, ap (λ (x : Node). x.right) was);
        rows = λ r some. subst (IsIn (has v)) (sym (is_here r here.row some)) p.has.0;
      }
      (refl, ap (λ (x : Node). x.left) is, ap (λ (x : Node). x.right) is)
      (ap (λ (x : Node). record { row = here.row; owner = x.owner; range = x.range } ∷ []) (is ∙ sym was))
      refl (inl none) (not_planned v.plan.trees (λ e. omega arith))
      (λ q z. let a = planned_are q in omega arith) in
      record {
        tree = tree;
        top = from_row here.row (g.low, g.high);
        score = g.score;
        cut = cut;
        new = cut;
        in_range = lt;
        knows = (row, there, gap ∙ ap (λ (t : ℕ). Some record { tree = t; low = g.low; high = g.high; score = g.score }) same);
        lays = lays.0;
        pairs = lays.1;
        mode = inr none;
        anew = λ q some. inl (is_here q here.row some);
      }

  pub measured_settles : IsSettle v.plan v (now ∷ [])
  measured_settles = go p.spot
    where
      go : Spot v tree asked here (child.row + 1) → IsSettle v.plan v (now ∷ [])
      go (at_anchor row mode link) = absurd (no_anchor row)
      go (at_row row g there gap same inside more goes) = settles_on row g there gap same more
