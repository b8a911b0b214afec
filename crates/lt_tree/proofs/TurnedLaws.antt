-- What a search holds after it has set an estimate, or turned two rows and put the lower one.
use Rattle.std.proofs.Common.{◌≡◌, ◌≢◌, inl, inr, ◌⊎◌, ⊎_elim, ℕ, ◌+◌, ◌<◌, ◌≤◌, [], ◌∷◌, sym, ap, ◌∙◌, subst, arith, ne_eqb}
use Rattle.std.specs.Prelude.{Some, None, nat_eq}
use mathlib.Core.Logic.{dite}
use native.Mathlib.Decide.{ℕ_discrete}
use Rattle.lt_ranges.specs.Interval.{Interval, before}
use Rattle.lt_rows.specs.declared.row_plan.RowPlan.{RowPlan}
use Rattle.lt_forest.specs.Counts.{one_if, times}
use Rattle.lt_forest.specs.Trees.{Node}
use Rattle.lt_forest.specs.Forest.{IsTree}
use Rattle.lt_forest.specs.Links.{left_of, right_of}
use Rattle.lt_rows.specs.declared.view.View.{View}
use Rattle.lt_rows.specs.declared.view.Row.{Row}
use Rattle.lt_rows.specs.declared.view.SeenGap.{SeenGap}
use Rattle.lt_rows.specs.declared.image.RowImage.{RowImage}
use Rattle.lt_rows.specs.Nodes.{node_of, mode_of}
use Rattle.lt_rows.specs.Views.{Holds, IsHeld, row_at, with_row, AllHeld, planned_rows}
use Rattle.lt_rows.proofs.Planned.{held_row}
use Rattle.lt_rows.proofs.Lessons.{names_apart}
use Rattle.lt_tree.specs.declared.estimates.Side.{Side}
use Rattle.lt_tree.specs.declared.estimates.Side.TheVariants.{Left, Right}
use Rattle.lt_tree.specs.Settlings.{SettlesRows}
use Rattle.lt_tree.specs.Descents.{free_rows, HasGapIn, GoesTo, Spot, at_anchor, at_row}
use Rattle.lt_tree.specs.Turnings.{with_link, turned_upper, turned_lower, IsSideTo, HasGapAround, IsMeasured, HoldsPair, HoldsThree}
use Rattle.lt_tree.proofs.ViewLaws.{put_gathers}
use Rattle.lt_tree.proofs.StepLaws.{has_on, spot_on, put_plan, put_else, put_differs, put_back, put_teaches, put_free}
use Rattle.lt_tree.proofs.WritingLaws.{held_same}
use Rattle.lt_tree.proofs.SeenLaws.{seen_plan}
use Rattle.lt_tree.proofs.SettledGaps.{spot_settled, child_settled, free_settled}
use Rattle.lt_tree.proofs.DeeperLaws.{gap_on, of_link, link_is}
use Rattle.lt_tree.proofs.TurningLaws.{IsTurn}

none_of : (q r : ℕ) → q ≢ r → one_if (nat_eq r q) ≡ 0
none_of q r ne = ap one_if (ne_eqb r q (λ e. ne (sym e)))

one_most : (q r : ℕ) → one_if (nat_eq r q) ≤ 1
one_most q r = grind arith

-- three rows, each once
once_each : (a b c q : ℕ) → b ≢ a → c ≢ a → c ≢ b → times q (a ∷ b ∷ c ∷ []) ≤ 1
once_each a b c q ba ca cb =
    let x = one_most q a in let y = one_most q b in let z = one_most q c in
    dite (ℕ_discrete q a)
    (λ e. let y' = none_of q b (λ s. ba (sym s ∙ e)) in let z' = none_of q c (λ s. ca (sym s ∙ e)) in omega arith)
    (λ ne. let x' = none_of q a ne in
    dite (ℕ_discrete q b)
    (λ e. let z' = none_of q c (λ s. cb (sym s ∙ e)) in omega arith)
    (λ ne'. let y' = none_of q b ne' in omega arith))

sides_differ : (p : ℕ) → left_of p ≡ right_of p → ⊥
sides_differ p e = cc

-- with another estimate
module _ (v w : View) (tree : ℕ) (asked : Interval) (here child now : RowImage) (p : HoldsPair v tree asked here child)
    (m : IsMeasured tree here now) (s : SettlesRows v w (now ∷ [])) where
  once_one : (q : ℕ) → times q (planned_rows (now ∷ [])) ≤ 1
  once_one q = let o = one_most q now.row in omega arith

  child_stays : row_at w child.row ≡ row_at v child.row
  child_stays = s.others child.row (let z = none_of child.row now.row (λ e. p.apart (e ∙ m.0)) in omega arith)

  goes_on : (n : Node) → n ≡ node_of here.words → GoesTo asked (node_of here.words) (child.row + 1) → GoesTo asked n (child.row + 1)
  goes_on n e goes = subst (λ (x : Node). GoesTo asked x (child.row + 1)) (sym e) goes

  pub measured_pair : HoldsPair w tree asked now child
  measured_pair = record {
    has = s.words.0;
    child_has = has_on v w child.row child.words child_stays p.child_has;
    teaches = s.teaches;
    spot = spot_settled v w here now [] s m.0 once_one tree asked (child.row + 1) (child.row + 1)
        (λ row mode. subst IsTree (sym (m.2 row)) mode) (λ link. link ∙ ap (λ (x : Node). x.left) (sym m.1)) (goes_on (node_of now.words) m.1) p.spot;
    gap = gap_on v w tree asked child.row child_stays p.gap;
    further = subst (λ (k : RowPlan). k.trees < child.row) (sym (seen_plan v w s.seen)) p.further;
    apart = λ e. p.apart (e ∙ m.0);
    held = λ q h. ⊎_elim (λ (is : q ≡ child.row). inl is) (λ (is : q ≡ here.row). inr (is ∙ sym m.0))
        (p.held q (held_same w v (λ r. sym (s.same r)) q h));
    gathers = s.gathers;
  }

-- the images that are made of a row and its child
pub is_turn : (v : View) (tree : ℕ) (asked : Interval) (here child low measured stays upper lower : RowImage) (side near : Side) (number : ℕ)
    → HoldsThree v tree asked here child side low → tree < v.plan.trees → IsMeasured tree here measured
    → number ≡ child.row → IsSideTo (node_of here.words) (number + 1) near
    → stays.row ≡ measured.row → node_of stays.words ≡ with_link near (low.row + 1) (node_of measured.words) → mode_of stays.words ≡ mode_of measured.words
    → (upper.row ≡ low.row) × (lower.row ≡ child.row)
    → node_of upper.words ≡ turned_upper side child.row (node_of low.words)
    → node_of lower.words ≡ turned_lower side (node_of low.words) (node_of child.words)
    → IsTurn v tree asked here child low stays upper lower side near
is_turn v tree asked here child low measured stays upper lower side near number three lt m same is row node mode rows up down = record {
  three = three;
  in_range = lt;
  near_is = subst (λ (r : ℕ). IsSideTo (node_of here.words) (r + 1) near) same is;
  stays_row = row ∙ m.0;
  stays_node = node ∙ ap (with_link near (low.row + 1)) m.1;
  stays_mode = λ e. mode ∙ m.2 e;
  upper_row = rows.0;
  upper_node = up;
  lower_row = rows.1;
  lower_node = down;
}

-- two rows turned
module _ (v w : View) (tree : ℕ) (asked : Interval) (here child low stays upper lower : RowImage) (side near : Side)
    (t : IsTurn v tree asked here child low stays upper lower side near) where
  abbrev h : HoldsThree v tree asked here child side low
  h = t.three

  upper_apart : upper.row ≢ stays.row
  upper_apart e = h.low_apart.0 (sym t.upper_row ∙ (e ∙ t.stays_row))

  lower_apart : (lower.row ≢ stays.row) × (lower.row ≢ upper.row)
  lower_apart = (
    λ e. h.apart (sym t.lower_row ∙ (e ∙ t.stays_row)),
    λ e. h.low_apart.1 (sym t.upper_row ∙ (sym e ∙ t.lower_row)),
  )

  pub turn_once : (q : ℕ) → times q (planned_rows (stays ∷ upper ∷ lower ∷ [])) ≤ 1
  turn_once q = once_each stays.row upper.row lower.row q upper_apart lower_apart.0 lower_apart.1

  pub turn_held : AllHeld v.held (stays ∷ upper ∷ lower ∷ [])
  turn_held =
      let a = held_row v here.row h.has.0 in
      let b = held_row v low.row h.low_has.0 in
      let c = held_row v child.row h.child_has.0 in (
        (a.0, ap (λ (r : ℕ). row_at v r) t.stays_row ∙ a.1),
        ((b.0, ap (λ (r : ℕ). row_at v r) t.upper_row ∙ b.1), ((c.0, ap (λ (r : ℕ). row_at v r) t.lower_row ∙ c.1), tt)),
      )

  -- the row that stays leads to the upper one, on the same side
  near_left : (s : Side) → IsSideTo (node_of here.words) (child.row + 1) s → node_of stays.words ≡ with_link s (low.row + 1) (node_of here.words)
      → child.row + 1 ≡ (node_of here.words).left → upper.row + 1 ≡ (node_of stays.words).left
  near_left Left is node link = ap (λ (r : ℕ). r + 1) t.upper_row ∙ sym (ap (λ (n : Node). n.left) node)
  near_left Right is node link = absurd (is (sym link))

  near_goes : (row : Row) (g : SeenGap) → Holds v here.row row → row.gap ≡ Some g → g.tree ≡ tree → (s : Side)
      → IsSideTo (node_of here.words) (child.row + 1) s → node_of stays.words ≡ with_link s (low.row + 1) (node_of here.words)
      → GoesTo asked (node_of here.words) (child.row + 1) → GoesTo asked (node_of stays.words) (upper.row + 1)
  near_goes row g there gap same Left is node (inl goes) =
      inl (ap (λ (n : Node). before asked n.range) node ∙ goes.0, near_left Left is node goes.1)
  near_goes row g there gap same Left is node (inr goes) =
      let in_tree : HasGapIn v tree here.row = (row, g, there, gap, same) in
      absurd (names_apart v h.teaches.0 h.teaches.2 (left_of here.row) (right_of here.row) child.row h.has.0 h.has.0
      (of_link v h.teaches tree here.row in_tree here.words h.has Left) (of_link v h.teaches tree here.row in_tree here.words h.has Right)
      (sides_differ here.row)
      (link_is v h.teaches tree here.row in_tree here.words h.has Left ∙ is)
      (link_is v h.teaches tree here.row in_tree here.words h.has Right ∙ sym goes.1))
  near_goes row g there gap same Right is node (inl goes) = absurd (is (sym goes.1))
  near_goes row g there gap same Right is node (inr goes) =
      inr (ap (λ (n : Node). before n.range asked) node ∙ goes.0, ap (λ (r : ℕ). r + 1) t.upper_row ∙ sym (ap (λ (n : Node). n.right) node))

  module _ (s : SettlesRows v w (stays ∷ upper ∷ lower ∷ [])) where
    plan_is : w.plan ≡ v.plan
    plan_is = seen_plan v w s.seen

    spot_now : Spot w tree asked stays (upper.row + 1)
    spot_now = go h.spot
      where
        go : Spot v tree asked here (child.row + 1) → Spot w tree asked stays (upper.row + 1)
        go (at_anchor row mode link) =
            at_anchor (t.stays_row ∙ row) (subst IsTree (sym (t.stays_mode row)) mode) (near_left near t.near_is t.stays_node link)
        go (at_row row g there gap same inside more goes) =
            spot_settled v w here stays (upper ∷ lower ∷ []) s t.stays_row turn_once tree asked (child.row + 1) (upper.row + 1)
            (λ is mode. subst IsTree (sym (t.stays_mode is)) mode) (near_left near t.near_is t.stays_node)
            (near_goes row g there gap same near t.near_is t.stays_node) (at_row row g there gap same inside more goes)

    lower_there : (row : Row) × Holds w lower.row row
    lower_there = held_row w lower.row s.words.1.1.0.0

    upper_further : w.plan.trees < upper.row
    upper_further = subst (λ (k : RowPlan). k.trees < upper.row) (sym plan_is) (let f = h.further.1 in let e = t.upper_row in omega arith)

    upper_gap : HasGapAround w tree asked upper.row
    upper_gap = child_settled v w stays upper (lower ∷ []) s turn_once tree (subst (λ (k : RowPlan). tree < k.trees) (sym plan_is) t.in_range) asked spot_now

    -- the lower one is given back
    module _ (u : View) (put : u ≡ with_row w lower.row None) where
      stays_kept : row_at u stays.row ≡ row_at w stays.row
      stays_kept = put_else w u lower.row put lower_there stays.row (λ e. lower_apart.0 (sym e))

      upper_kept : row_at u upper.row ≡ row_at w upper.row
      upper_kept = put_else w u lower.row put lower_there upper.row (λ e. lower_apart.1 (sym e))

      held_now : (q : ℕ) → IsHeld u q → (q ≡ upper.row) ⊎ (q ≡ stays.row)
      held_now q k =
          let in_w : IsHeld w q = (k.0, put_back w u lower.row put lower_there q k.0 k.1) in
          ⊎_elim (λ (is : q ≡ low.row). inl (is ∙ sym t.upper_row))
          (λ (o : (q ≡ child.row) ⊎ (q ≡ here.row)). ⊎_elim
          (λ (is : q ≡ child.row). absurd (put_differs w u lower.row put lower_there q k (is ∙ sym t.lower_row)))
          (λ (is : q ≡ here.row). inr (is ∙ sym t.stays_row)) o)
          (h.held q (held_same w v (λ r. sym (s.same r)) q in_w))

      pub turned_pair : HoldsPair u tree asked stays upper
      turned_pair = record {
        has = has_on w u stays.row stays.words stays_kept s.words.0;
        child_has = has_on w u upper.row upper.words upper_kept s.words.1.0;
        teaches = put_teaches w u lower.row put lower_there s.teaches;
        spot = spot_on w u tree asked stays (upper.row + 1) (put_plan w u lower.row put lower_there) stays_kept spot_now;
        gap = gap_on w u tree asked upper.row upper_kept upper_gap;
        further = subst (λ (k : RowPlan). k.trees < upper.row) (sym (put_plan w u lower.row put lower_there)) upper_further;
        apart = upper_apart;
        held = held_now;
        gathers = put_gathers lower.row w u lower_there.0 lower_there.1 put s.gathers;
      }

      pub turned_free : free_rows u.held ≡ free_rows v.held + 1
      turned_free = let a = free_settled v w (stays ∷ upper ∷ lower ∷ []) s in let b = put_free w u lower.row put lower_there in omega arith
