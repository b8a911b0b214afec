-- The gaps of a plan's rows after a settle: each is the one that the links of the rows before it in the plan give it.
use Rattle.std.proofs.Common.{◌≡◌, inl, inr, ℕ, zero, suc, ◌+◌, ◌<◌, ◌≤◌, List, [], ◌∷◌, ◌++◌, length, set, get_or, get_or-set_same}
use Rattle.std.proofs.Common.{refl, sym, ap, ◌∙◌, subst, arith, eq-eqb, true≢false}
use Rattle.std.specs.Prelude.{Option, Some, None, nat_eq}
use mathlib.Core.Logic.{dite}
use native.Mathlib.Decide.{ℕ_discrete}
use Rattle.lt_ranges.specs.Interval.{Interval}
use Rattle.lt_rows.specs.declared.row_plan.RowPlan.{RowPlan}
use Rattle.lt_forest.specs.Counts.{one_if, times}
use Rattle.lt_forest.specs.Forest.{IsTree}
use Rattle.lt_forest.specs.Views.{IsIn}
use Rattle.lt_rows.specs.declared.view.View.{View}
use Rattle.lt_rows.specs.declared.view.Row.{Row}
use Rattle.lt_rows.specs.declared.view.SeenGap.{SeenGap}
use Rattle.lt_rows.specs.declared.image.RowImage.{RowImage}
use Rattle.lt_rows.specs.Nodes.{node_of, mode_of}
use Rattle.lt_rows.specs.Views.{Holds, row_at, has, is_some, images, image_of, gap_of, planned, planned_row, planned_rows}
use Rattle.lt_rows.specs.Gaps.{with_gap, gap_from, gap_for, clear, regap, new_gaps}
use Rattle.lt_rows.specs.Rule.{Stood}
use Rattle.lt_rows.specs.Woods.{woods}
use Rattle.lt_rows.proofs.Frames.{inside_list}
use Rattle.lt_rows.proofs.Planned.{held_row, row_held}
use Rattle.lt_rows.proofs.Regaps.{cleared_was, gap_map}
use Rattle.lt_rows.proofs.StepLaws.{regap_else}
use Rattle.lt_rows.proofs.Views.{planned_at}
use Rattle.lt_rows.proofs.Gapped.{gap_at_left, gap_at_right}
use Rattle.lt_tree.specs.Descents.{free_rows, GoesTo, Spot, at_anchor, at_row}
use Rattle.lt_tree.specs.Settlings.{SettlesRows}
use Rattle.lt_tree.proofs.SeenLaws.{seen_plan}
use Rattle.lt_tree.proofs.SettlingLaws.{Within, within_stood}
use Rattle.lt_tree.proofs.SpotLaws.{HasGapFor, spot_gap, spot_further}

-- entries after gaps are set: the same are held, with the same images

set_same : {A : Type 0} (f : Option Row → A) (xs : List (Option Row)) (q r : ℕ) (x : Option Row) → f x ≡ f (get_or xs q None)
    → f (get_or (set xs q x) r None) ≡ f (get_or xs r None)
set_same f [] q r x e = refl
set_same f (y ∷ ys) zero zero x e = e
set_same f (y ∷ ys) zero (suc r) x e = refl
set_same f (y ∷ ys) (suc q) zero x e = refl
set_same f (y ∷ ys) (suc q) (suc r) x e = set_same f ys q r x e

-- what is the same of two entries
abbrev IsLike : Option Row → Option Row → Type 0
IsLike x y = (is_some x ≡ is_some y) × (image_of x ≡ image_of y)

like_on : (x y z : Option Row) → IsLike x y → IsLike y z → IsLike x z
like_on x y z a b = (a.0 ∙ b.0, a.1 ∙ b.1)

gap_like : (x : Option Row) (g : Option SeenGap) → IsLike (with_gap x g) x
gap_like None g = (refl, refl)
gap_like (Some row) g = (refl, refl)

set_like : (xs : List (Option Row)) (q r : ℕ) (g : Option SeenGap)
    → IsLike (get_or (set xs q (with_gap (get_or xs q None) g)) r None) (get_or xs r None)
set_like xs q r g =
    let same = gap_like (get_or xs q None) g in
    (set_same is_some xs q r (with_gap (get_or xs q None) g) same.0, set_same image_of xs q r (with_gap (get_or xs q None) g) same.1)

regap_like : (trees : ℕ) (xs : List (Option Row)) (ps : List RowImage) (r : ℕ)
    → IsLike (get_or (regap trees xs ps) r None) (get_or xs r None)
regap_like trees xs [] r = (refl, refl)
regap_like trees xs (p ∷ ps) r =
    like_on _ _ _ (regap_like trees (set xs p.row (with_gap (get_or xs p.row None) (gap_from trees 0 xs p.row))) ps r)
    (set_like xs p.row r (gap_from trees 0 xs p.row))

clear_like : (xs : List (Option Row)) (ps : List RowImage) (r : ℕ) → IsLike (get_or (clear xs ps) r None) (get_or xs r None)
clear_like xs [] r = (refl, refl)
clear_like xs (p ∷ ps) r =
    like_on _ _ _ (clear_like (set xs p.row (with_gap (get_or xs p.row None) None)) ps r) (set_like xs p.row r None)

plan_some : (x : Option Row) (ws : List ℕ) → is_some (planned_row x ws) ≡ is_some x
plan_some None ws = refl
plan_some (Some row) ws = refl

planned_some : (xs : List (Option Row)) (ps : List RowImage) (r : ℕ) → is_some (get_or (planned xs ps) r None) ≡ is_some (get_or xs r None)
planned_some xs [] r = refl
planned_some xs (p ∷ ps) r =
    planned_some (set xs p.row (planned_row (get_or xs p.row None) p.words)) ps r
    ∙ set_same is_some xs p.row r (planned_row (get_or xs p.row None) p.words) (plan_some (get_or xs p.row None) p.words)

cleared_none : (xs : List (Option Row)) (ps : List RowImage) (r : ℕ) → 0 < times r (planned_rows ps)
    → gap_of (get_or (clear xs ps) r None) ≡ None
cleared_none xs ps r some = go (get_or (clear xs ps) r None) refl
  where
    go : (x : Option Row) → get_or (clear xs ps) r None ≡ x → gap_of x ≡ None
    go None e = refl
    go (Some row) e = elim (cleared_was xs ps r row e).3 [ inl none ↦ none | inr b ↦ let z = b.1 in absurd (omega (arith, some)) ]

regap_app : (trees : ℕ) (xs : List (Option Row)) (ps qs : List RowImage) → regap trees xs (ps ++ qs) ≡ regap trees (regap trees xs ps) qs
regap_app trees xs [] qs = refl
regap_app trees xs (p ∷ ps) qs = regap_app trees (set xs p.row (with_gap (get_or xs p.row None) (gap_from trees 0 xs p.row))) ps qs

planned_app : (ps qs : List RowImage) (r : ℕ) → times r (planned_rows (ps ++ qs)) ≡ times r (planned_rows ps) + times r (planned_rows qs)
planned_app [] qs r = omega arith
planned_app (p ∷ ps) qs r = let n = planned_app ps qs r in omega arith

only_once : (p : RowImage) (back : List RowImage) → times p.row (planned_rows (p ∷ back)) ≤ 1 → times p.row (planned_rows back) ≡ 0
only_once p back o = let here : one_if (nat_eq p.row p.row) ≡ 1 = ap one_if (eq-eqb p.row p.row refl) in omega arith

none_is : (g : SeenGap) → None ≡ Some g → ⊥
none_is g e = cc

-- as many rows as before are not held
free_like : (xs ys : List (Option Row)) → length xs ≡ length ys → ((r : ℕ) → is_some (get_or xs r None) ≡ is_some (get_or ys r None))
    → free_rows xs ≡ free_rows ys
free_like [] [] long like = refl
free_like [] (y ∷ ys) long like = absurd (omega arith)
free_like (x ∷ xs) [] long like = absurd (omega arith)
free_like (None ∷ xs) (None ∷ ys) long like = ap suc (free_like xs ys (omega arith) (λ r. like (suc r)))
free_like (None ∷ xs) (Some b ∷ ys) long like = absurd (true≢false (sym (like 0)))
free_like (Some a ∷ xs) (None ∷ ys) long like = absurd (true≢false (like 0))
free_like (Some a ∷ xs) (Some b ∷ ys) long like = free_like xs ys (omega arith) (λ r. like (suc r))

pub free_settled : (v w : View) (plan : List RowImage) → SettlesRows v w plan → free_rows w.held ≡ free_rows v.held
free_settled v w plan s = free_like w.held v.held s.long s.same

-- The rows as they are when the gap of the row p of the plan is taken anew: those before it in the plan have theirs.
module _ (v w : View) (here : RowImage) (front : List RowImage) (p : RowImage) (back : List RowImage)
    (s : SettlesRows v w (here ∷ front ++ p ∷ back)) (once : (q : ℕ) → times q (planned_rows (here ∷ front ++ p ∷ back)) ≤ 1) where
  abbrev plan : List RowImage
  plan = here ∷ front ++ p ∷ back

  abbrev cleared : List (Option Row)
  cleared = clear (planned v.held (here ∷ front ++ p ∷ back)) (front ++ p ∷ back)

  abbrev then_rows : List (Option Row)
  then_rows = regap v.plan.trees (clear (planned v.held (here ∷ front ++ p ∷ back)) (front ++ p ∷ back)) front

  abbrev last_rows : List (Option Row)
  last_rows = regap v.plan.trees (clear (planned v.held (here ∷ front ++ p ∷ back)) (front ++ p ∷ back)) (front ++ p ∷ back)

  cleared_has : (r : ℕ) → is_some (get_or cleared r None) ≡ has w r
  cleared_has r = (clear_like (planned v.held plan) (front ++ p ∷ back) r).0 ∙ (planned_some v.held plan r ∙ sym (s.same r))

  cleared_image : (r : ℕ) → IsIn (has w) r → image_of (get_or cleared r None) ≡ images w r
  cleared_image r h =
      let was = held_row v r (sym (s.same r) ∙ h) in
      let n = planned_at v.held plan r was.0 was.1 in
      (clear_like (planned v.held plan) (front ++ p ∷ back) r).1 ∙ (ap image_of n.1 ∙ (n.3 ∙ sym (s.images_are r was)))

  last_gap : (r : ℕ) → IsIn (has w) r → gap_of (get_or last_rows r None) ≡ gap_of (row_at w r)
  unfolding new_gaps
  last_gap r h = let was = held_row v r (sym (s.same r) ∙ h) in sym (gap_map last_rows r) ∙ sym (s.gaps r was)

  then_has : (r : ℕ) → is_some (get_or then_rows r None) ≡ has w r
  then_has r = (regap_like v.plan.trees cleared front r).0 ∙ cleared_has r

  then_image : (r : ℕ) → IsIn (has w) r → image_of (get_or then_rows r None) ≡ images w r
  then_image r h = (regap_like v.plan.trees cleared front r).1 ∙ cleared_image r h

  last_is : last_rows ≡ regap v.plan.trees then_rows (p ∷ back)
  last_is = regap_app v.plan.trees cleared front (p ∷ back)

  counted : (r : ℕ) → times r (planned_rows (front ++ p ∷ back)) ≡ times r (planned_rows front) + times r (planned_rows (p ∷ back))
  counted r = planned_app front (p ∷ back) r

  then_gap : (r : ℕ) → IsIn (has w) r → times r (planned_rows (p ∷ back)) ≡ 0 → gap_of (get_or then_rows r None) ≡ gap_of (row_at w r)
  then_gap r h none =
      ap gap_of (sym (regap_else v.plan.trees then_rows (p ∷ back) r none))
      ∙ (ap (λ (xs : List (Option Row)). gap_of (get_or xs r None)) (sym last_is) ∙ last_gap r h)

  then_none : (r : ℕ) → 0 < times r (planned_rows (p ∷ back)) → gap_of (get_or then_rows r None) ≡ None
  then_none r some =
      let n = counted r in let o = once r in
      ap gap_of (regap_else v.plan.trees cleared front r (omega (arith, some)))
      ∙ cleared_none (planned v.held plan) (front ++ p ∷ back) r (omega (arith, some))

  within : Within w then_rows
  within r row e =
      let h : IsIn (has w) r = sym (then_has r) ∙ ap is_some e in
      let y = held_row w r h in (
        y.0,
        y.1,
        ap image_of (sym e) ∙ (then_image r h ∙ ap image_of y.1),
        λ g is. dite (ℕ_discrete (times r (planned_rows (p ∷ back))) 0)
            (λ z. ap gap_of (sym y.1) ∙ (sym (then_gap r h z) ∙ (ap gap_of e ∙ is)))
            (λ ne. absurd (none_is g (sym (then_none r (omega arith)) ∙ (ap gap_of e ∙ is)))),
      )

  -- the view then
  abbrev then_view : View
  then_view = record w { held = then_rows }

  then_stood : Stood (woods w.plan) then_view s.teaches.0
  then_stood = within_stood w then_rows s.teaches.0 within s.teaches.2

  held_then : (q : ℕ) (z : Row) → Holds w q z → times q (planned_rows (p ∷ back)) ≡ 0
      → (y : Row) × Holds then_view q y × (y.image ≡ z.image) × (y.gap ≡ z.gap)
  held_then q z h none =
      let in_w = row_held w q z h in
      let y = held_row then_view q (then_has q ∙ in_w) in
      (y.0, y.1, ap image_of (sym y.1) ∙ (then_image q in_w ∙ ap image_of h), ap gap_of (sym y.1) ∙ (then_gap q in_w none ∙ ap gap_of h))

  abbrev anew : Option Row
  anew = with_gap (get_or then_rows p.row None) (gap_from v.plan.trees 0 then_rows p.row)

  -- the gap that the row p has after the settle
  gap_anew : IsIn (has w) p.row → gap_of (row_at w p.row) ≡ gap_for then_view p.row
  unfolding gap_for
  gap_anew h =
      let y = held_row then_view p.row (then_has p.row ∙ h) in
      let o = once p.row in let n = counted p.row in
      sym (last_gap p.row h)
      ∙ (ap (λ (xs : List (Option Row)). gap_of (get_or xs p.row None)) last_is
      ∙ (ap gap_of (regap_else v.plan.trees (set then_rows p.row anew) back p.row (only_once p back (omega arith)))
      ∙ (ap gap_of (get_or-set_same then_rows p.row anew None (inside_list then_rows p.row y.0 y.1))
      ∙ (ap (λ (x : Option Row). gap_of (with_gap x (gap_from v.plan.trees 0 then_rows p.row))) y.1
      ∙ ap (λ (k : RowPlan). gap_from k.trees 0 then_rows p.row) (sym (seen_plan v w s.seen))))))

-- The held row has the words that it was settled with, and its gap as it was: from it the search goes on as before, where the link
-- stands on the same side.
module _ (v w : View) (here here' : RowImage) (rest : List RowImage) (s : SettlesRows v w (here' ∷ rest))
    (same : here'.row ≡ here.row)
    (once : (q : ℕ) → times q (planned_rows (here' ∷ rest)) ≤ 1) where
  keeps_gap : (row : Row) (g : SeenGap) → Holds v here.row row → row.gap ≡ Some g → (new : Row) × Holds w here'.row new × (new.gap ≡ Some g)
  keeps_gap row g held is =
      let new = held_row w here'.row s.words.0.0 in (
        new.0,
        new.1,
        ap gap_of (sym new.1)
            ∙ (s.gaps_stay here'.row (only_once here' rest (once here'.row))
            ∙ (ap (λ (n : ℕ). gap_of (row_at v n)) same ∙ (ap gap_of held ∙ is))),
      )

  pub spot_settled : (tree : ℕ) (asked : Interval) (link link' : ℕ)
      → (here.row ≡ tree → IsTree (mode_of here.words) → IsTree (mode_of here'.words))
      → (link ≡ (node_of here.words).left → link' ≡ (node_of here'.words).left)
      → (GoesTo asked (node_of here.words) link → GoesTo asked (node_of here'.words) link')
      → Spot v tree asked here link → Spot w tree asked here' link'
  spot_settled tree asked link link' mode left goes (at_anchor row is link_is) = at_anchor (same ∙ row) (mode row is) (left link_is)
  spot_settled tree asked link link' mode left goes (at_row row g held gap t inside more to) =
      let new = keeps_gap row g held gap in
      at_row new.0 g new.1 new.2 t inside
      (subst (λ (k : RowPlan). k.trees < here'.row) (sym (seen_plan v w s.seen)) (let e = same in omega arith)) (goes to)

-- The row to which the held row leads after the settle stands in a gap of the tree in which the asked range lies.
module _ (v w : View) (here upper : RowImage) (rest : List RowImage) (s : SettlesRows v w (here ∷ upper ∷ rest))
    (once : (q : ℕ) → times q (planned_rows (here ∷ upper ∷ rest)) ≤ 1) (tree : ℕ) (lt : tree < w.plan.trees) (asked : Interval) where
  abbrev mid : View
  mid = then_view v w here [] upper rest s once

  mid_stood : Stood (woods w.plan) mid s.teaches.0
  mid_stood = then_stood v w here [] upper rest s once

  here_apart : times here.row (planned_rows (upper ∷ rest)) ≡ 0
  here_apart = only_once here (upper ∷ rest) (once here.row)

  here_then : (z : Row) → Holds w here.row z → (y : Row) × Holds mid here.row y × (y.image ≡ z.image) × (y.gap ≡ z.gap)
  here_then z h = held_then v w here [] upper rest s once here.row z h here_apart

  spot_then : (link : ℕ) → Spot w tree asked here link → Spot mid tree asked here link
  spot_then link (at_anchor row is left) = at_anchor row is left
  spot_then link (at_row row g held gap t inside more goes) =
      let y = here_then row held in at_row y.0 g y.1 (y.3 ∙ gap) t inside more goes

  pub child_settled : Spot w tree asked here (upper.row + 1) → HasGapFor w tree asked upper.row
  child_settled spot =
      let z = held_row w here.row s.words.0.0 in
      let y = here_then z.0 z.1 in
      let g = spot_gap mid s.teaches.0 mid_stood tree lt asked here (upper.row + 1) upper.row refl (y.0, y.1)
      (y.2 ∙ (ap image_of (sym z.1) ∙ s.words.0.2)) (spot_then (upper.row + 1) spot) in
      let row = held_row w upper.row s.words.1.0.0 in
      (row.0, g.0, row.1, ap gap_of (sym row.1) ∙ (gap_anew v w here [] upper rest s once s.words.1.0.0 ∙ g.1), g.2, g.3)

  -- and from there the search goes on
  pub goes_settled : Spot w tree asked here (upper.row + 1) → (on : ℕ) → GoesTo asked (node_of upper.words) on → Spot w tree asked upper on
  goes_settled spot on goes =
      let z = held_row w here.row s.words.0.0 in
      let c = child_settled spot in
      let far = spot_further w s.teaches.0 s.teaches.2 tree lt asked here (upper.row + 1) upper.row refl z
      (ap image_of (sym z.1) ∙ s.words.0.2) spot in
      at_row c.0 c.1 c.2 c.3 c.4 c.5 far.0 goes

-- The third row of the plan has the gap that the second one's link gives it.
module _ (v w : View) (here upper lower : RowImage) (rest : List RowImage) (s : SettlesRows v w (here ∷ upper ∷ lower ∷ rest))
    (once : (q : ℕ) → times q (planned_rows (here ∷ upper ∷ lower ∷ rest)) ≤ 1) (further : w.plan.trees ≤ upper.row)
    (row : Row) (g : SeenGap) (held : Holds w upper.row row) (gap : row.gap ≡ Some g) where
  abbrev last : View
  last = then_view v w here (upper ∷ []) lower rest s once

  upper_then : (y : Row) × Holds last upper.row y × (y.image ≡ row.image) × (y.gap ≡ row.gap)
  upper_then = held_then v w here (upper ∷ []) lower rest s once upper.row row held
      (let o = once upper.row in only_once upper (lower ∷ rest) (omega arith))

  image_then : upper_then.0.image ≡ upper.words
  image_then = upper_then.2 ∙ (ap image_of (sym held) ∙ s.words.1.0.2)

  lower_gap : gap_of (row_at w lower.row) ≡ gap_for last lower.row
  lower_gap = gap_anew v w here (upper ∷ []) lower rest s once s.words.1.1.0.0

  pub left_settled : (node_of upper.words).left ≡ lower.row + 1
      → gap_of (row_at w lower.row) ≡ Some record g { high = Some (node_of upper.words).range.left }
  left_settled link =
      lower_gap
      ∙ (gap_at_left last s.teaches.0 (then_stood v w here (upper ∷ []) lower rest s once) lower.row upper.row upper_then.0 g further
      upper_then.1 (upper_then.3 ∙ gap) (ap (λ (ws : List ℕ). (node_of ws).left) image_then ∙ link)
      ∙ ap (λ (ws : List ℕ). Some record g { high = Some (node_of ws).range.left }) image_then)

  pub right_settled : (node_of upper.words).right ≡ lower.row + 1
      → gap_of (row_at w lower.row) ≡ Some record g { low = Some (node_of upper.words).range.right }
  right_settled link =
      lower_gap
      ∙ (gap_at_right last s.teaches.0 (then_stood v w here (upper ∷ []) lower rest s once) lower.row upper.row upper_then.0 g further
      upper_then.1 (upper_then.3 ∙ gap) (ap (λ (ws : List ℕ). (node_of ws).right) image_then ∙ link)
      ∙ ap (λ (ws : List ℕ). Some record g { low = Some (node_of ws).range.right }) image_then)
