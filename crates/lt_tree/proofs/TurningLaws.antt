-- The plan that turns a row with its child is one that may be settled.
use Rattle.std.proofs.Common.{◌≡◌, ◌≢◌, inl, inr, ◌⊎◌, ⊎_elim, ℕ, ◌+◌, ◌<◌, List, [], ◌∷◌, ◌++◌, drop, map, refl, sym, ap, ap₂, ◌∙◌, subst, arith, ne_eqb}
use Rattle.std.specs.Prelude.{Some, nat_eq}
use mathlib.Core.Logic.{dite}
use native.Mathlib.Decide.{ℕ_discrete}
use Rattle.lt_ranges.specs.Interval.{Interval}
use Rattle.lt_seq.specs.declared.event.Mode.{Mode}
use Rattle.lt_seq.specs.declared.event.Mode.TheVariants.{Tree as TreeMode, Buffer}
use Rattle.lt_seq.specs.declared.event.Pair.{Pair}
use Rattle.lt_forest.specs.declared.part.Placed.{Placed}
use Rattle.lt_forest.specs.Counts.{one_if, times}
use Rattle.lt_forest.specs.Trees.{Node, Nodes, in_order, pair_of}
use Rattle.lt_forest.specs.Cuts.{Cut, end, held, bare}
use Rattle.lt_forest.specs.Layouts.{IsLaid, HoldsPlaced, Turns}
use Rattle.lt_forest.specs.Forest.{IsTree}
use Rattle.lt_forest.specs.Plans.{from_anchor, from_row}
use Rattle.lt_forest.specs.Links.{Slot, left_of, right_of, row_with, link_in}
use Rattle.lt_forest.specs.Sides.{around, far_link}
use Rattle.lt_forest.specs.Views.{IsIn, AllHeld, PlansOnly}
use Rattle.lt_forest.proofs.SameRows.{times-++}
use Rattle.lt_forest.proofs.RotationLaws.{turns_left, turns_right}
use Rattle.lt_forest.proofs.PublicLaws.{turn_lays_at_anchor, turn_lays_at_row}
use Rattle.lt_rows.specs.declared.view.View.{View}
use Rattle.lt_rows.specs.declared.view.Row.{Row}
use Rattle.lt_rows.specs.declared.view.SeenGap.{SeenGap}
use Rattle.lt_rows.specs.declared.image.RowImage.{RowImage}
use Rattle.lt_rows.specs.Nodes.{node_of, mode_of}
use Rattle.lt_rows.specs.Views.{Holds, has, images, changed, planned_contents, planned_rows}
use Rattle.lt_rows.specs.Lawful.{shown, shown_after, IsSettle}
use Rattle.lt_rows.proofs.Frames.{changed_at, changed_else}
use Rattle.lt_tree.specs.declared.estimates.Side.{Side}
use Rattle.lt_tree.specs.declared.estimates.Side.TheVariants.{Left, Right}
use Rattle.lt_tree.specs.Descents.{Spot, at_anchor, at_row}
use Rattle.lt_tree.specs.Turnings.{link_of, with_link, turned_upper, turned_lower, IsSideTo, HoldsThree}
use Rattle.lt_tree.proofs.DeeperLaws.{slot_on, with_slot, slot_link}

-- The images with which a row and its child are turned below the row that stays.
pub record IsTurn (v : View) (tree : ℕ) (asked : Interval) (here child low stays upper lower : RowImage) (side near : Side) : Type 0 where
  pub three : HoldsThree v tree asked here child side low
  pub in_range : tree < v.plan.trees
  pub near_is : IsSideTo (node_of here.words) (child.row + 1) near
  pub stays_row : stays.row ≡ here.row
  pub stays_node : node_of stays.words ≡ with_link near (low.row + 1) (node_of here.words)
  pub stays_mode : here.row ≡ tree → mode_of stays.words ≡ mode_of here.words
  pub upper_row : upper.row ≡ low.row
  pub upper_node : node_of upper.words ≡ turned_upper side child.row (node_of low.words)
  pub lower_row : lower.row ≡ child.row
  pub lower_node : node_of lower.words ≡ turned_lower side (node_of low.words) (node_of child.words)

-- one of two rows
in_two : (r a b : ℕ) → 0 < times r (a ∷ b ∷ []) → (r ≡ a) ⊎ (r ≡ b)
in_two r a b some = dite (ℕ_discrete r a) (λ e. inl e) (λ ne. inr (dite (ℕ_discrete r b) (λ e. e)
    (λ ne'.
    let x : one_if (nat_eq a r) ≡ 0 = ap one_if (ne_eqb a r (λ s. ne (sym s))) in
    let y : one_if (nat_eq b r) ≡ 0 = ap one_if (ne_eqb b r (λ s. ne' (sym s))) in
    absurd (omega arith))))

-- the rows of a laid cut are those that are placed
rows_app : (q : ℕ) (xs ys : List Placed) → times q (map (λ (p : Placed). p.row) (xs ++ ys)) ≡ times q (map (λ (p : Placed). p.row) xs) + times q (map (λ (p : Placed). p.row) ys)
rows_app q [] ys = omega arith
rows_app q (x ∷ xs) ys = let t = rows_app q xs ys in omega arith

laid_rows : (placed : List Placed) (link : ℕ) (cut : Cut) → IsLaid placed link cut → (q : ℕ) → times q (in_order (bare cut)) ≡ times q (map (λ (p : Placed). p.row) placed)
laid_rows placed link (end l) laid q = ap (λ (ps : List Placed). times q (map (λ (p : Placed). p.row) ps)) (sym laid.0)
laid_rows placed link (held a r b) laid q =
    let left = laid_rows laid.0 laid.2.left a laid.6 q in
    let right = laid_rows laid.1 laid.2.right b laid.7 q in
    let all = times-++ q (in_order (bare a)) (r ∷ in_order (bare b)) in
    let here : one_if (nat_eq laid.2.row q) ≡ one_if (nat_eq r q) = ap (λ (n : ℕ). one_if (nat_eq n q)) laid.4 in
    let rows : times q (map (λ (p : Placed). p.row) placed) ≡ times q (map (λ (p : Placed). p.row) (laid.0 ++ (laid.1 ++ laid.2 ∷ []))) = ap (λ (ps : List Placed). times q (map (λ (p : Placed). p.row) ps)) laid.3 in
    let outer = rows_app q laid.0 (laid.1 ++ laid.2 ∷ []) in
    let inner = rows_app q laid.1 (laid.2 ∷ []) in
    omega arith

-- the rows of the cut with the row above it
around_rows : (c : Nodes) (s : Slot) (cut : Cut) (q : ℕ)
    → times q (in_order (bare (around c s cut))) ≡ times q (in_order (bare cut)) + (one_if (nat_eq (row_with s) q) + 0)
around_rows c (left_of h) cut q = times-++ q (in_order (bare cut)) (h ∷ [])
around_rows c (right_of h) cut q = omega arith

module _ (v : View) (tree : ℕ) (asked : Interval) (here child low stays upper lower : RowImage) (side near : Side)
    (t : IsTurn v tree asked here child low stays upper lower side near) where
  abbrev plan : List RowImage
  plan = stays ∷ upper ∷ lower ∷ []

  abbrev before_it : Nodes
  before_it = shown v []

  abbrev after_it : Nodes
  after_it = shown_after v plan

  abbrev h : HoldsThree v tree asked here child side low
  h = t.three

  abbrev one : ℕ → List ℕ
  one = changed (images v) stays.row stays.words

  abbrev two : ℕ → List ℕ
  two = changed one upper.row upper.words

  -- what the plan makes of the three rows
  at_lower : planned_contents (images v) plan child.row ≡ lower.words
  at_lower = changed_at two lower.row lower.words child.row (sym t.lower_row)

  at_upper : planned_contents (images v) plan low.row ≡ upper.words
  at_upper =
      changed_else two lower.row lower.words low.row (λ e. h.low_apart.1 (e ∙ t.lower_row))
      ∙ changed_at one upper.row upper.words low.row (sym t.upper_row)

  at_stays : planned_contents (images v) plan here.row ≡ stays.words
  at_stays =
      changed_else two lower.row lower.words here.row (λ e. h.apart (sym (e ∙ t.lower_row)))
      ∙ (changed_else one upper.row upper.words here.row (λ e. h.low_apart.0 (sym (e ∙ t.upper_row)))
      ∙ changed_at (images v) stays.row stays.words here.row (sym t.stays_row))

  low_was : before_it low.row ≡ node_of low.words
  low_was = ap node_of h.low_has.2

  child_was : before_it child.row ≡ node_of child.words
  child_was = ap node_of h.child_has.2

  here_was : before_it here.row ≡ node_of here.words
  here_was = ap node_of h.has.2

  low_is : after_it low.row ≡ turned_upper side child.row (node_of low.words)
  low_is = ap node_of at_upper ∙ t.upper_node

  child_is : after_it child.row ≡ turned_lower side (node_of low.words) (node_of child.words)
  child_is = ap node_of at_lower ∙ t.lower_node

  here_is : after_it here.row ≡ with_link near (low.row + 1) (node_of here.words)
  here_is = ap node_of at_stays ∙ t.stays_node

  -- the row that stays leads to the child on the side that was found
  near_by : (s : Side) → IsSideTo (node_of here.words) (child.row + 1) s → Spot v tree asked here (child.row + 1) → link_of s (node_of here.words) ≡ child.row + 1
  near_by Left is spot = is
  near_by Right is (at_anchor row mode e) = absurd (is (sym e))
  near_by Right is (at_row row g there gap same inside more (inl goes)) = absurd (is (sym goes.1))
  near_by Right is (at_row row g there gap same inside more (inr goes)) = sym goes.1

  pub near_link : link_of near (node_of here.words) ≡ child.row + 1
  near_link = near_by near t.near_is h.spot

  abbrev slot : Slot
  slot = slot_on near here.row

  slot_before : link_in before_it slot ≡ child.row + 1
  slot_before = slot_link before_it near here.row (node_of here.words) here_was ∙ near_link

  linked : (s : Side) (l : ℕ) (n : Node) → link_of s (with_link s l n) ≡ l
  linked Left l n = refl
  linked Right l n = refl

  slot_after : link_in after_it slot ≡ low.row + 1
  slot_after = slot_link after_it near here.row _ here_is ∙ linked near (low.row + 1) (node_of here.words)

  far_of : Side → Node → ℕ
  far_of Left n = n.right
  far_of Right n = n.left

  far_by : (c : Nodes) (s : Side) (n : Node) → c here.row ≡ n → far_link c (slot_on s here.row) ≡ far_of s n
  unfolding far_of
  far_by c Left n e = ap (λ (m : Node). m.right) e
  far_by c Right n e = ap (λ (m : Node). m.left) e

  far_stays : (s : Side) (l : ℕ) (n : Node) → far_of s n ≡ far_of s (with_link s l n)
  unfolding far_of
  far_stays Left l n = refl
  far_stays Right l n = refl

  far_same : far_link before_it slot ≡ far_link after_it slot
  far_same =
      far_by before_it near (node_of here.words) here_was
      ∙ (far_stays near (low.row + 1) (node_of here.words) ∙ sym (far_by after_it near _ here_is))

  -- owners and ranges stay
  abbrev of_node : Node → Pair
  of_node n = record { owner = n.owner; range = n.range }

  low_pair : pair_of before_it low.row ≡ pair_of after_it low.row
  low_pair = ap of_node low_was ∙ (go side ∙ ap of_node (sym low_is))
    where
      go : (s : Side) → of_node (node_of low.words) ≡ of_node (turned_upper s child.row (node_of low.words))
      go Left = refl
      go Right = refl

  child_pair : pair_of before_it child.row ≡ pair_of after_it child.row
  child_pair = ap of_node child_was ∙ (go side ∙ ap of_node (sym child_is))
    where
      go : (s : Side) → of_node (node_of child.words) ≡ of_node (turned_lower s (node_of low.words) (node_of child.words))
      go Left = refl
      go Right = refl

  here_pair : pair_of before_it here.row ≡ pair_of after_it here.row
  here_pair = ap of_node here_was ∙ (go near ∙ ap of_node (sym here_is))
    where
      go : (s : Side) → of_node (node_of here.words) ≡ of_node (with_link s (low.row + 1) (node_of here.words))
      go Left = refl
      go Right = refl

  -- the rows of the plan
  planned_are : (q : ℕ) → times q (planned_rows plan) ≡ one_if (nat_eq here.row q) + times q (low.row ∷ child.row ∷ [])
  planned_are q = ap (λ (rows : List ℕ). times q rows) (λ j. t.stays_row j ∷ t.upper_row j ∷ t.lower_row j ∷ [])

  behind_are : (q : ℕ) → times q (planned_rows (drop 1 plan)) ≡ times q (low.row ∷ child.row ∷ [])
  behind_are q = ap (λ (rows : List ℕ). times q rows) (λ j. t.upper_row j ∷ t.lower_row j ∷ [])

  none_of : (q r : ℕ) → q ≢ r → one_if (nat_eq r q) ≡ 0
  none_of q r ne = ap one_if (ne_eqb r q (λ e. ne (sym e)))

  not_planned : (q : ℕ) → q ≢ here.row → q < low.row → q < child.row → times q (planned_rows plan) ≡ 0
  not_planned q ne less less' =
      let p = planned_are q in
      let a = none_of q here.row ne in
      let b = none_of q low.row (λ e. omega arith) in
      let c = none_of q child.row (λ e. omega arith) in
      omega arith

  -- with the turn of the two rows
  module _ (old new : List Placed) (turn : Turns old new (child.row + 1) (low.row + 1))
      (count : (q : ℕ) → times q turn.rows ≡ times q (low.row ∷ child.row ∷ []))
      (holds : HoldsPlaced before_it old) (holds' : HoldsPlaced after_it new) where
    all_held : AllHeld (IsIn (has v)) turn.rows
    all_held q some = let n = count q in
        ⊎_elim (λ (e : q ≡ low.row). subst (IsIn (has v)) (sym e) h.low_has.0)
        (λ (e : q ≡ child.row). subst (IsIn (has v)) (sym e) h.child_has.0)
        (in_two q low.row child.row (omega arith))

    same_pairs : (q : ℕ) → 0 < times q turn.rows → pair_of before_it q ≡ pair_of after_it q
    same_pairs q some = let n = count q in
        ⊎_elim (λ (e : q ≡ low.row). subst (λ (m : ℕ). pair_of before_it m ≡ pair_of after_it m) (sym e) low_pair)
        (λ (e : q ≡ child.row). subst (λ (m : ℕ). pair_of before_it m ≡ pair_of after_it m) (sym e) child_pair)
        (in_two q low.row child.row (omega arith))

    cut_rows : (q : ℕ) → times q (in_order (bare turn.before.cut)) ≡ times q (low.row ∷ child.row ∷ [])
    cut_rows q = ap (times q) turn.before.rows_are ∙ count q

    only_these : (top : ℕ) → top ≡ here.row → PlansOnly (tree ∷ v.plan.trees ∷ top ∷ turn.rows) (planned_rows plan)
    only_these top is q none =
        let p = planned_are q in
        let n = count q in
        let e : one_if (nat_eq top q) ≡ one_if (nat_eq here.row q) = ap (λ (m : ℕ). one_if (nat_eq m q)) is in
        omega arith

    only_below : here.row ≡ tree → PlansOnly (tree ∷ v.plan.trees ∷ turn.rows) (planned_rows plan)
    only_below is q none =
        let p = planned_are q in
        let n = count q in
        let e : one_if (nat_eq here.row q) ≡ one_if (nat_eq tree q) = ap (λ (m : ℕ). one_if (nat_eq m q)) is in
        omega arith

    settles_below : here.row ≡ tree → near ≡ Left → (score : ℕ) → mode_of here.words ≡ TreeMode score → IsSettle v.plan v plan
    settles_below is left score mode =
        let no_pool : times v.plan.trees (planned_rows plan) ≡ 0 =
        not_planned v.plan.trees (λ e. let r = t.in_range in omega arith) h.further.1 h.further.0 in
        let at_left : slot ≡ left_of tree = ap₂ slot_on left is in
        let lays = turn_lays_at_anchor (has v) (planned_rows plan) v.plan.trees tree before_it after_it old new (child.row + 1) (low.row + 1) turn
        (subst (IsIn (has v)) is h.has.0) all_held holds holds' same_pairs
        (subst (λ (s : Slot). link_in before_it s ≡ child.row + 1) at_left slot_before)
        (subst (λ (s : Slot). link_in after_it s ≡ low.row + 1) at_left slot_after) no_pool (only_below is) in
        record {
          tree = tree;
          top = from_anchor;
          score = score;
          cut = turn.before.cut;
          new = turn.after.cut;
          in_range = t.in_range;
          knows = subst (λ (r : ℕ). mode_of (images v r) ≡ TreeMode score) is (ap mode_of h.has.2 ∙ mode);
          lays = lays.0;
          pairs = lays.1;
          mode = subst (λ (r : ℕ). mode_of (planned_contents (images v) plan r) ≡ mode_of (images v r)) is
              (ap mode_of at_stays ∙ (t.stays_mode is ∙ sym (ap mode_of h.has.2)));
          anew = λ q some. inr (let n = cut_rows q in let b = behind_are q in omega arith);
        }

    settles_on : (row : Row) (g : SeenGap) → Holds v here.row row → row.gap ≡ Some g → g.tree ≡ tree → v.plan.trees < here.row → IsSettle v.plan v plan
    settles_on row g there gap same more =
        let top_is : row_with slot ≡ here.row = with_slot near here.row in
        let no_pool : times v.plan.trees (planned_rows plan) ≡ 0 =
        not_planned v.plan.trees (λ e. omega arith) h.further.1 h.further.0 in
        let no_anchor : times tree (planned_rows plan) ≡ 0 =
        (let r = t.in_range in let f = h.further.0 in let f' = h.further.1 in not_planned tree (λ e. omega arith) (omega arith) (omega arith)) in
        let lays = turn_lays_at_row (has v) (planned_rows plan) v.plan.trees tree slot (g.low, g.high) before_it after_it old new (child.row + 1) (low.row + 1) turn
        (subst (IsIn (has v)) (sym top_is) h.has.0) all_held holds holds' same_pairs slot_before slot_after
        (subst (λ (r : ℕ). pair_of before_it r ≡ pair_of after_it r) (sym top_is) here_pair) far_same (inl no_anchor) no_pool
        (only_these (row_with slot) top_is) in
        record {
          tree = tree;
          top = from_row (row_with slot) (g.low, g.high);
          score = g.score;
          cut = around before_it slot turn.before.cut;
          new = around after_it slot turn.after.cut;
          in_range = t.in_range;
          knows = (
            row,
            subst (λ (r : ℕ). Holds v r row) (sym top_is) there,
            gap ∙ ap (λ (n : ℕ). Some record { tree = n; low = g.low; high = g.high; score = g.score }) same,
          );
          lays = lays.0;
          pairs = lays.1;
          mode = inr no_anchor;
          anew = λ q some. dite (ℕ_discrete q (row_with slot)) (λ e. inl e) (λ ne. inr (
              let n = cut_rows q in let b = behind_are q in let a = around_rows before_it slot turn.before.cut q in
              let z = none_of q (row_with slot) ne in omega arith));
        }

    settles_by : Spot v tree asked here (child.row + 1) → IsSettle v.plan v plan
    settles_by (at_anchor is mode link) = by_mode (mode_of here.words) refl mode
      where
        first : (s : Side) → IsSideTo (node_of here.words) (child.row + 1) s → s ≡ Left
        first Left e = refl
        first Right ne = absurd (ne (sym link))

        by_mode : (m : Mode) → mode_of here.words ≡ m → IsTree m → IsSettle v.plan v plan
        by_mode (TreeMode score) e tt' = settles_below is (first near t.near_is) score e
        by_mode (Buffer txn n) e none = absurd none
    settles_by (at_row row g there gap same inside more goes) = settles_on row g there gap same more

  place : ℕ → Node → Placed
  place r n = record { row = r; left = n.left; right = n.right }

  settles_side : (s : Side) → side ≡ s → IsSettle v.plan v plan
  unfolding place
  settles_side Left is =
      let low_links : after_it low.row ≡ turned_upper Left child.row (node_of low.words) = subst (λ (s : Side). after_it low.row ≡ turned_upper s child.row (node_of low.words)) is low_is in
      let child_links : after_it child.row ≡ turned_lower Left (node_of low.words) (node_of child.words) = subst (λ (s : Side). after_it child.row ≡ turned_lower s (node_of low.words) (node_of child.words)) is child_is in
      let link : (node_of child.words).left ≡ low.row + 1 = subst (λ (s : Side). link_of s (node_of child.words) ≡ low.row + 1) is h.link in
      let turn = turns_right (place child.row (node_of child.words)) (place low.row (node_of low.words)) link in
      settles_by _ _ turn
      (λ q. sym (ap (times q) turn.before.rows_are) ∙ laid_rows _ (child.row + 1) turn.before.cut turn.before.laid q)
      (ap (λ (n : Node). n.left) low_was, ap (λ (n : Node). n.right) low_was, (ap (λ (n : Node). n.left) child_was, ap (λ (n : Node). n.right) child_was, tt))
      (ap (λ (n : Node). n.left) child_links, ap (λ (n : Node). n.right) child_links, (ap (λ (n : Node). n.left) low_links, ap (λ (n : Node). n.right) low_links, tt))
      h.spot
  settles_side Right is =
      let low_links : after_it low.row ≡ turned_upper Right child.row (node_of low.words) = subst (λ (s : Side). after_it low.row ≡ turned_upper s child.row (node_of low.words)) is low_is in
      let child_links : after_it child.row ≡ turned_lower Right (node_of low.words) (node_of child.words) = subst (λ (s : Side). after_it child.row ≡ turned_lower s (node_of low.words) (node_of child.words)) is child_is in
      let link : (node_of child.words).right ≡ low.row + 1 = subst (λ (s : Side). link_of s (node_of child.words) ≡ low.row + 1) is h.link in
      let turn = turns_left (place child.row (node_of child.words)) (place low.row (node_of low.words)) link in
      settles_by _ _ turn
      (λ q. sym (ap (times q) turn.before.rows_are) ∙ laid_rows _ (child.row + 1) turn.before.cut turn.before.laid q)
      (ap (λ (n : Node). n.left) low_was, ap (λ (n : Node). n.right) low_was, (ap (λ (n : Node). n.left) child_was, ap (λ (n : Node). n.right) child_was, tt))
      (ap (λ (n : Node). n.left) child_links, ap (λ (n : Node). n.right) child_links, (ap (λ (n : Node). n.left) low_links, ap (λ (n : Node). n.right) low_links, tt))
      h.spot

  pub turn_settles : IsSettle v.plan v plan
  turn_settles = settles_side side refl
