-- A hang's row is taken into the part.
use Rattle.std.proofs.Common.{◌≡◌, ◌≢◌, ℕ, suc, ◌+◌, ◌<◌, ◌≤◌, true, List, [], ◌∷◌, ◌++◌, map, length, refl, sym, ap, ap₂, ◌∙◌, subst, arith, eq-eqb, ne_eqb}
use Rattle.std.specs.Prelude.{Option, Some, None, nat_eq}
use mathlib.Core.Logic.{dite}
use native.Mathlib.Decide.{ℕ_discrete}
use Rattle.lt_ranges.specs.Interval.{Interval}
use Rattle.lt_rows.specs.Plan.{setting_of}
use Rattle.lt_seq.proofs.LawfulLaws.{sound_history}
use Rattle.lt_forest.specs.declared.part.PartRow.{PartRow}
use Rattle.lt_forest.specs.Counts.{one_if, times}
use Rattle.lt_forest.specs.Trees.{Node, Nodes, in_order}
use Rattle.lt_forest.specs.Cuts.{Cut, end, held, Shows, bare}
use Rattle.lt_forest.specs.Parts.{part_row, rows_of, hangs_of}
use Rattle.lt_forest.specs.Plans.{Top, from_anchor, from_row}
use Rattle.lt_forest.specs.Views.{IsIn, AllHeld, HoldsPart, TopHeld}
use Rattle.lt_forest.specs.Widenings.{Widens}
use Rattle.lt_forest.proofs.SameRows.{times-++}
use Rattle.lt_forest.proofs.PartLaws.{map_long}
use Rattle.lt_forest.proofs.NamedInCuts.{hang_names}
use Rattle.lt_forest.proofs.PlansInView.{true_part, on_cut}
use Rattle.lt_forest.proofs.WidenLaws.{widens}
use Rattle.lt_rows.specs.declared.view.View.{View}
use Rattle.lt_rows.specs.declared.view.Row.{Row}
use Rattle.lt_rows.specs.declared.take.Take.TheVariants.{Taken}
use Rattle.lt_rows.specs.Nodes.{node_of, mode_of}
use Rattle.lt_rows.specs.Views.{IsHeld, row_at, has, is_some, image_of}
use Rattle.lt_rows.specs.Views.{rows_of as all_rows}
use Rattle.lt_rows.specs.Lawful.{shown, KnowsTop}
use Rattle.lt_rows.specs.Teaching.{Teaches}
use Rattle.lt_rows.proofs.Planned.{held_row, view_is}
use Rattle.lt_rows.proofs.WoodCommits.{seen_top, mode_top}
use Rattle.lt_tree.specs.States.{Seizes, HasWords}
use Rattle.lt_tree.specs.Gathers.{Place, below_top, on_left, on_right, link_at, around, TopIs, Beside, HoldsMore, IsLocked, IsLockedWith}
use Rattle.lt_tree.proofs.ViewLaws.{seized_else, seized_gathers}

pub on_rows : (c d : Nodes) (xs : List ℕ) → ((q : ℕ) → 0 < times q xs → c q ≡ d q) → map (part_row c) xs ≡ map (part_row d) xs
on_rows c d [] same = refl
on_rows c d (x ∷ xs) same =
    let o : one_if (nat_eq x x) ≡ 1 = ap one_if (eq-eqb x x refl) in
    ap₂ (λ (p : PartRow) (ps : List PartRow). p ∷ ps) (ap (λ (n : Node). record { row = x; owner = n.owner; range = n.range }) (same x (omega arith))) (on_rows c d xs (λ q more. same q (omega arith)))

map_app : (g : ℕ → PartRow) (xs ys : List ℕ) → map g (xs ++ ys) ≡ map g xs ++ map g ys
map_app g [] ys = refl
map_app g (x ∷ xs) ys = ap (λ (l : List PartRow). g x ∷ l) (map_app g xs ys)

tail_of : List PartRow → List PartRow
tail_of [] = []
tail_of (x ∷ xs) = xs

head_or : PartRow → List PartRow → PartRow
head_or d [] = d
head_or d (x ∷ xs) = x

split_same : (a b c d : List PartRow) → a ++ b ≡ c ++ d → length a ≡ length c → (a ≡ c) × (b ≡ d)
unfolding tail_of head_or
split_same [] b [] d e long = (refl, e)
split_same [] b (y ∷ c) d e long = absurd (omega arith)
split_same (x ∷ a) b [] d e long = absurd (omega arith)
split_same (x ∷ a) b (y ∷ c) d e long =
    let i = split_same a b c d (ap tail_of e) (omega arith) in
    (ap₂ (λ (p : PartRow) (ps : List PartRow). p ∷ ps) (ap (head_or x) e) i.0, i.1)

-- what a link that hangs names: a further row, and no row of the part
abbrev pub HangNames : ℕ → ℕ → ℕ → Cut → Type 0
HangNames trees rows r cut = (trees < r) × (r < rows) × (times r (in_order (bare cut)) ≡ 0)

-- in the pass's view

seen_around : (place : Place) (h : ℕ) (n : Node) (sub : Cut) (r : ℕ) → 0 < times r (hangs_of sub) → 0 < times r (hangs_of (around place h n sub))
seen_around below_top h n sub r some = some
seen_around on_left h n sub r some = let s = times-++ r (hangs_of sub) (n.right ∷ []) in omega arith
seen_around on_right h n sub r some = let s = times-++ r (n.left ∷ []) (hangs_of sub) in omega arith

-- rows of the cut from the top
around_rows : (place : Place) (h : ℕ) (n : Node) (sub : Cut) (q : ℕ) → times q (in_order (bare (around place h n sub))) ≤ times q (h ∷ in_order (bare sub))
around_rows below_top h n sub q = omega arith
around_rows on_left h n sub q = let s = times-++ q (in_order (bare sub)) (h ∷ []) in omega arith
around_rows on_right h n sub q = omega arith

module _ (v : View) (tree : ℕ) (asked : Interval) (here : ℕ) (rows : List PartRow) (hangs : List ℕ)
    {more : List ℕ} (l : IsLockedWith v tree asked here rows hangs more) (lt : tree < v.plan.trees) where
  abbrev mine : Nodes
  mine = shown v []

  abbrev whole : Cut
  whole = around l.place here (shown v [] here) l.sub

  pub holds_part : HoldsPart (IsIn (has v)) tree l.top mine whole
  holds_part = go l.place l.top l.top_is l.shows
    where
      rows_held : (p : Place) → AllHeld (IsIn (has v)) (in_order (bare (around p here (shown v [] here) l.sub)))
      rows_held p q some = l.held_rows q (let r = around_rows p here (shown v [] here) l.sub q in omega arith)

      here_is : 0 < times here (here ∷ in_order (bare l.sub))
      here_is = let o : one_if (nat_eq here here) ≡ 1 = ap one_if (eq-eqb here here refl) in omega arith

      go : (p : Place) (top : Top) → TopIs p tree here top → Shows mine (link_at p (mine here)) l.sub → HoldsPart (IsIn (has v)) tree top mine (around p here (shown v [] here) l.sub)
      go below_top top is shows =
          subst (λ (t : Top). HoldsPart (IsIn (has v)) tree t mine l.sub) (sym is.1) (record {
            top_held = subst (IsIn (has v)) is.0 (l.held_rows here here_is);
            shows = subst (λ (n : ℕ). Shows mine (mine n).left l.sub) is.0 shows;
            rows = rows_held below_top;
          })
      go on_left top is shows = subst (λ (t : Top). HoldsPart (IsIn (has v)) tree t mine (held l.sub here (end (mine here).right))) (sym is.1) (record { top_held = tt; shows = (refl, shows, refl); rows = rows_held on_left })
      go on_right top is shows = subst (λ (t : Top). HoldsPart (IsIn (has v)) tree t mine (held (end (mine here).left) here l.sub)) (sym is.1) (record { top_held = tt; shows = (refl, refl, shows); rows = rows_held on_right })

  pub names : (r : ℕ) → 0 < times (suc r) hangs → HangNames v.plan.trees (all_rows v.plan) r whole
  names r some =
      let st = l.teaches.2 in
      let log = l.teaches.0 in
      let agree = (view_is v [] st.contents st.agrees).before in
      let seen = seen_top v.plan v [] st.forest st.contents log st.shape st.agrees st.gaps tree lt l.top l.score l.knows in
      let mode = mode_top v.plan v [] st.forest st.contents log st.shape st.agrees st.gaps tree lt l.top l.score holds_part.top_held l.knows in
      hang_names (true_part agree holds_part st.shape.forest (sound_history (setting_of v.plan) log st.shape.legal) lt mode seen) r
      (let one : suc r ≡ r + 1 = omega arith in
      subst (λ (x : ℕ). 0 < times x (hangs_of whole)) one
      (seen_around l.place here (shown v [] here) l.sub (suc r) (subst (λ (xs : List ℕ). 0 < times (suc r) xs) (sym l.hangs_are) some)))

-- no further row
pub none_more : (v : View) (rows : List ℕ) → HoldsMore v rows []
none_more v rows = record {
  held = λ q some. absurd (omega arith);
  once = λ q. omega arith;
  apart = λ q some. absurd (omega arith);
}

module _ (v : View) (tree : ℕ) (asked : Interval) (here : ℕ) (rows : List PartRow) (hangs : List ℕ) (l : IsLocked v tree asked here rows hangs)
    (lt : tree < v.plan.trees) where
  -- so it isn't held
  pub not_there : (r : ℕ) → 0 < times (suc r) hangs → (q : ℕ) → IsHeld v q → q ≢ r
  not_there r some q h e =
      let n = names v tree asked here rows hangs l lt r some in
      let a = l.held_all q h in
      let there : 0 < times r (here ∷ in_order (bare l.sub)) = subst (λ (m : ℕ). 0 < times m (here ∷ in_order (bare l.sub))) e (omega arith) in
      absurd (go l.place l.top_is n there)
    where
      go : (p : Place) → TopIs p tree here l.top → HangNames v.plan.trees (all_rows v.plan) r (around p here (shown v [] here) l.sub) → 0 < times r (here ∷ in_order (bare l.sub)) → ⊥
      go below_top is n there =
          let a = n.2 in let f = n.0 in let same = is.0 in
          let z : one_if (nat_eq here r) ≡ 0 = ap one_if (ne_eqb here r (λ x. omega arith)) in omega arith
      go on_left is n there = let s = times-++ r (in_order (bare l.sub)) (here ∷ []) in let a = n.2 in omega arith
      go on_right is n there = let a = n.2 in omega arith

  pub hang_free : (r : ℕ) → 0 < times (suc r) hangs → row_at v r ≡ None
  hang_free r some = go (row_at v r) refl
    where
      go : (x : Option Row) → row_at v r ≡ x → row_at v r ≡ None
      go None is = is
      go (Some row) is = absurd (not_there r some r (row, is) refl)

  -- after the take of the row that hangs at a place, it stands in the part
  module _ (w : View) (r : ℕ) (xs ys : List ℕ) (at_hang : hangs ≡ xs ++ (r + 1) ∷ ys) (s : Seizes r v w Taken) (teaches : Teaches w) where
    some : 0 < times (suc r) hangs
    some =
        let t = times-++ (suc r) xs ((r + 1) ∷ ys) in
        let o : one_if (nat_eq (r + 1) (suc r)) ≡ 1 = ap one_if (eq-eqb (r + 1) (suc r) (omega arith)) in
        let e : times (suc r) hangs ≡ times (suc r) (xs ++ (r + 1) ∷ ys) = ap (times (suc r)) at_hang in
        omega arith

    stays_at : (q : ℕ) → IsHeld v q → row_at w q ≡ row_at v q
    stays_at q h = seized_else r v w s q (not_there r some q h)

    in_has : (q : ℕ) → IsIn (has v) q → row_at w q ≡ row_at v q
    in_has q h = stays_at q (held_row v q h)

    same_node : (q : ℕ) → IsIn (has v) q → shown w [] q ≡ shown v [] q
    same_node q h = ap (λ (x : Option Row). node_of (image_of x)) (in_has q h)

    w_shows : Shows (shown w []) (link_at l.place (shown w [] here)) l.sub
    w_shows =
        let here_in : IsIn (has v) here = l.held_rows here (let o : one_if (nat_eq here here) ≡ 1 = ap one_if (eq-eqb here here refl) in omega arith) in
        subst (λ (n : Node). Shows (shown w []) (link_at l.place n) l.sub) (sym (same_node here here_in))
        (on_cut (shown v []) (shown w []) (link_at l.place (shown v [] here)) l.sub (λ q more. sym (same_node q (l.held_rows q (omega arith)))) l.shows)

    pub wide : Widens (shown w []) (link_at l.place (shown w [] here)) l.sub r xs ys
    wide = widens (shown w []) (link_at l.place (shown w [] here)) l.sub r xs ys w_shows (l.hangs_are ∙ at_hang)

    knows_on : (top : Top) → KnowsTop v tree top l.score → TopHeld (IsIn (has v)) tree top → KnowsTop w tree top l.score
    knows_on from_anchor k top_held = ap (λ (x : Option Row). mode_of (image_of x)) (in_has tree top_held) ∙ k
    knows_on (from_row h g) k top_held = (k.0, stays_at h (k.0, k.1) ∙ k.1, k.2)

    pub rows_old : rows_of (shown w []) l.sub ≡ rows
    rows_old = on_rows (shown w []) (shown v []) (in_order (bare l.sub)) (λ q more. same_node q (l.held_rows q (omega arith))) ∙ l.rows_are

    w_held : (q : ℕ) → IsIn (has v) q → IsIn (has w) q
    w_held q h = subst (λ (x : Option Row). is_some x ≡ true) (sym (in_has q h)) h

    wider_times : (q : ℕ) → times q (in_order (bare wide.wider)) ≡ times q (in_order (bare l.sub)) + (one_if (nat_eq r q) + 0)
    wider_times q =
        let a = ap (times q) wide.new_rows in let b = ap (times q) wide.old_rows in
        let c = times-++ q wide.rows_before (r ∷ wide.rows_behind) in let d = times-++ q wide.rows_before wide.rows_behind in omega arith

    pub record IsWider (words : List ℕ) (rows' : List PartRow) (hangs' : List ℕ) : Type 0 where
      pub ahead : List PartRow
      pub behind : List PartRow
      pub old : rows ≡ ahead ++ behind
      pub place_is : length ahead ≡ length xs
      pub new_rows : rows' ≡ ahead ++ record { row = r; owner = (node_of words).owner; range = (node_of words).range } ∷ behind
      pub new_hangs : hangs' ≡ xs ++ (node_of words).left ∷ (node_of words).right ∷ ys

    pub widened : (words : List ℕ) (rows' : List PartRow) (hangs' : List ℕ) → HasWords w r words → IsWider words rows' hangs' → IsLocked w tree asked here rows' hangs'
    widened words rows' hangs' has_r x =
        let node_r : shown w [] r ≡ node_of words = ap node_of has_r.2 in
        let pr : List ℕ → List PartRow = map (part_row (shown w [])) in
        let split : (pr wide.rows_before ≡ x.ahead) × (pr wide.rows_behind ≡ x.behind) =
        split_same (map (part_row (shown w [])) wide.rows_before) (map (part_row (shown w [])) wide.rows_behind) x.ahead x.behind
        (sym (map_app (part_row (shown w [])) wide.rows_before wide.rows_behind) ∙ (ap (map (part_row (shown w []))) (sym wide.old_rows) ∙ (rows_old ∙ x.old)))
        (map_long (part_row (shown w [])) wide.rows_before ∙ (wide.place ∙ sym x.place_is)) in
        record {
          place = l.place;
          top = l.top;
          score = l.score;
          sub = wide.wider;
          knows = knows_on l.top l.knows (holds_part v tree asked here rows hangs l lt).top_held;
          top_is = l.top_is;
          in_gap = l.in_gap;
          beside = subst (λ (n : Node). Beside l.place asked n.range) (sym (same_node here here_in)) l.beside;
          shows = wide.shows;
          held_rows = λ q more. held_new q (wider_times q) more;
          held_more = none_more w (here ∷ in_order (bare wide.wider));
          held_all = λ q h. all_new q (wider_times q) h;
          rows_are =
              ap (map (part_row (shown w []))) wide.new_rows
              ∙ (map_app (part_row (shown w [])) wide.rows_before (r ∷ wide.rows_behind)
              ∙ (ap₂ (λ (a : List PartRow) (b : List PartRow). a ++ part_row (shown w []) r ∷ b) split.0 split.1
              ∙ (ap (λ (n : Node). x.ahead ++ record { row = r; owner = n.owner; range = n.range } ∷ x.behind) node_r ∙ sym x.new_rows)));
          hangs_are = wide.hangs ∙ (ap (λ (n : Node). xs ++ n.left ∷ n.right ∷ ys) node_r ∙ sym x.new_hangs);
          teaches = teaches;
          gathers = seized_gathers r v w s l.gathers;
        }
      where
        here_in : IsIn (has v) here
        here_in = l.held_rows here (let o : one_if (nat_eq here here) ≡ 1 = ap one_if (eq-eqb here here refl) in omega arith)

        held_new : (q : ℕ) → times q (in_order (bare wide.wider)) ≡ times q (in_order (bare l.sub)) + (one_if (nat_eq r q) + 0) → 0 < times q (here ∷ in_order (bare wide.wider)) → IsIn (has w) q
        held_new q t more = dite (ℕ_discrete q r)
            (λ e. subst (IsIn (has w)) (sym e) has_r.0)
            (λ ne. w_held q (l.held_rows q (let z : one_if (nat_eq r q) ≡ 0 = ap one_if (ne_eqb r q (λ x'. ne (sym x'))) in omega arith)))

        all_new : (q : ℕ) → times q (in_order (bare wide.wider)) ≡ times q (in_order (bare l.sub)) + (one_if (nat_eq r q) + 0)
            → IsHeld w q → 0 < times q (here ∷ in_order (bare wide.wider)) + times q []
        all_new q t h = dite (ℕ_discrete q r)
            (λ e. let o : one_if (nat_eq r q) ≡ 1 = ap one_if (eq-eqb r q (sym e)) in omega arith)
            (λ ne. let a = l.held_all q (h.0, sym (seized_else r v w s q ne) ∙ h.1) in omega arith)

    -- its cut is the wider one
    pub widened_cut : (words : List ℕ) (rows' : List PartRow) (hangs' : List ℕ) (has_r : HasWords w r words) (x : IsWider words rows' hangs')
        → (widened words rows' hangs' has_r x).sub ≡ wide.wider
    unfolding widened
    widened_cut words rows' hangs' has_r x = refl
