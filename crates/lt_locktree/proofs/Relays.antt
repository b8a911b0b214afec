-- A plan that lays the part of a search anew for any deed in Tree mode meets what a commit asks.
use Rattle.std.proofs.Common.{◌≡◌, ℕ, ◌+◌, ◌<◌, inl, inr, true, List, [], ◌∷◌, ◌++◌, length, refl, sym, ap, ◌∙◌, subst, arith, eq-eqb, ne_eqb}
use Rattle.std.specs.Prelude.{pos, ℤ, ◌+ℤ◌, nat_eq, None}
use mathlib.Core.Logic.{dite}
use native.Mathlib.Decide.{ℕ_discrete}
use Rattle.lt_ranges.specs.Interval.{Interval}
use Rattle.lt_seq.specs.declared.event.Event.{Event}
use Rattle.lt_seq.specs.declared.event.Pair.{Pair}
use Rattle.lt_seq.specs.declared.event.Deed.{Deed}
use Rattle.lt_seq.specs.declared.event.Mode.TheVariants.{Tree as TreeMode}
use Rattle.lt_seq.specs.History.{IsQuestion}
use Rattle.lt_seq.specs.Pairs.{IsLawful}
use Rattle.lt_rows.specs.Plan.{setting_of}
use Rattle.lt_seq.specs.Table.{tree_of}
use Rattle.lt_forest.specs.declared.part.PartRow.{PartRow}
use Rattle.lt_forest.specs.Counts.{times, one_if}
use Rattle.lt_forest.specs.Trees.{Nodes, in_order, pair_of, pairs_in}
use Rattle.lt_forest.specs.Cuts.{Cut, Shows, bare, ends, Looser}
use Rattle.lt_forest.specs.Plans.{Top, top_link, range_of, IsClosedFor, ShowsDeed, SameRows}
use Rattle.lt_forest.specs.Links.{Slot, left_of, right_of, row_with}
use Rattle.lt_forest.specs.Sides.{IsOnSide}
use Rattle.lt_forest.specs.Sides.{around as beside}
use Rattle.lt_forest.specs.Views.{IsIn, AllHeld, PlansOnly, TopStays, PoolPlan, no_pool, from_pool, PlanLays}
use Rattle.lt_forest.proofs.SameRows.{times-++}
use Rattle.lt_forest.proofs.PublicLaws.{read_pool_is_further, side_loosens, side_has_same_rows}
use Rattle.lt_rows.specs.declared.view.View.{View}
use Rattle.lt_rows.specs.declared.image.RowImage.{RowImage}
use Rattle.lt_rows.specs.Nodes.{nodes, modes}
use Rattle.lt_rows.specs.Views.{has, planned_rows}
use Rattle.lt_rows.specs.Views.{rows_of as all_rows}
use Rattle.lt_rows.specs.Lawful.{shown, shown_after, mode_before, mode_after, KnowsTop, ShowsFor, InTree, in_tree, IsCommit}
use Rattle.lt_rows.proofs.Planned.{view_is}
use Rattle.lt_tree.specs.Gathers.{Place, below_top, on_left, on_right, link_at, around, TopIs, Beside, IsLockedWith, IsClosed}
use Rattle.lt_tree.proofs.PartLaws.{locked_is_closed}
use Rattle.lt_locktree.specs.RelaidRows.{RowStays}
use Rattle.lt_locktree.proofs.HeldParts.{part_held, whole_lawful, row_further}
use Rattle.lt_locktree.proofs.Grants.{around_times, length_around, none_of}

-- the part hangs from a row that isn't the tree's anchor
abbrev pub IsBesideRow : Place → Type 0
IsBesideRow below_top = ⊥
IsBesideRow on_left = Unit {0}
IsBesideRow on_right = Unit {0}

module _ (v : View) (tree : ℕ) (asked : Interval) (here : ℕ) (rows : List PartRow) (hangs more : List ℕ)
    (l : IsLockedWith v tree asked here rows hangs more) (closed : IsClosed asked rows hangs) (lt : tree < v.plan.trees)
    (plan : List RowImage) (new : Cut) (taken given : List ℕ) (txn : ℕ) (deed : Deed) where
  abbrev c : Nodes
  c = shown v plan

  abbrev d : Nodes
  d = shown_after v plan

  abbrev cut : Cut
  cut = around l.place here (c here) l.sub

  abbrev new_cut : Cut
  new_cut = around l.place here (d here) new

  module _ (at : tree_of deed ≡ tree) (on : range_of deed ≡ asked) (question : IsQuestion deed)
      (shows : Shows d (link_at l.place (d here)) new) (stays : RowStays v plan here l.place)
      (held_new : AllHeld (IsIn (has v)) (in_order (bare new)))
      (loose : Looser (ends c l.sub None None) (ends d new None None)) (same : SameRows l.sub new taken given)
      (pool : PoolPlan (IsIn (has v)) (planned_rows plan) v.plan.trees c d taken given)
      (only : PlansOnly (here ∷ v.plan.trees ∷ in_order (bare l.sub) ++ taken) (planned_rows plan))
      (below : l.place ≡ below_top → mode_before v plan tree ≡ TreeMode l.score
      → ShowsDeed (setting_of v.plan) txn deed c d l.sub new (mode_before v plan tree) (mode_after v plan tree))
      (side : (s : ℕ) (h : Slot) → IsBesideRow l.place → (l.score ≡ 100 → s ≡ 100) → IsLawful (pairs_in c (bare (beside c h l.sub)))
      → IsOnSide c h asked → pair_of c (row_with h) ≡ pair_of d (row_with h)
      → ShowsDeed (setting_of v.plan) txn deed c d (beside c h l.sub) (beside d h new) (TreeMode s) (TreeMode s)) where
    taken_further : (q : ℕ) → 0 < times q taken → v.plan.trees < q
    taken_further q some = by pool
      where
        by : PoolPlan (IsIn (has v)) (planned_rows plan) v.plan.trees c d taken given → v.plan.trees < q
        by (no_pool e f g) = absurd (let z = ap (times q) e in omega arith)
        by (from_pool anchor rows_held given_held moves) =
            let st = l.teaches.2 in
            (read_pool_is_further (has v) c v.plan.trees (all_rows v.plan) (nodes st.contents) (modes st.contents) _ st.forest
            moves.rest q taken st.shape.forest (view_is v [] st.contents st.agrees).before
            (λ r h. dite (ℕ_discrete v.plan.trees r) (λ e. subst (IsIn (has v)) e anchor)
            (λ ne. rows_held r (let z : one_if (nat_eq v.plan.trees r) ≡ 0 = ap one_if (ne_eqb v.plan.trees r ne) in omega arith)))
            moves.takes some).0

    -- from a row on the tree's anchor is in no plan
    no_anchor : (v.plan.trees < here) → times tree (planned_rows plan) ≡ 0
    no_anchor far =
        only tree
        (let a : one_if (nat_eq here tree) ≡ 0 = ap one_if (ne_eqb here tree (λ e. omega arith)) in
        let b : one_if (nat_eq v.plan.trees tree) ≡ 0 = ap one_if (ne_eqb v.plan.trees tree (λ e. omega arith)) in
        let m : times tree (in_order (bare l.sub)) ≡ 0 = none_of (in_order (bare l.sub)) tree
        (λ some. let f = further_sub tree some in absurd (omega arith)) in
        let n : times tree taken ≡ 0 = none_of taken tree (λ some. let f = taken_further tree some in absurd (omega arith)) in
        let s = times-++ tree (in_order (bare l.sub)) taken in
        omega arith)
      where
        further_sub : (q : ℕ) → 0 < times q (in_order (bare l.sub)) → v.plan.trees < q
        further_sub q some = (row_further v tree asked here rows hangs more l lt q (in_whole l.place)).0
          where
            in_whole : (p : Place) → 0 < times q (in_order (bare (around p here (c here) l.sub)))
            in_whole below_top = some
            in_whole on_left = let s = times-++ q (in_order (bare l.sub)) (here ∷ []) in omega arith
            in_whole on_right = omega arith

    here_held : IsIn (has v) here
    here_held = l.held_rows here (let o : one_if (nat_eq here here) ≡ 1 = ap one_if (eq-eqb here here refl) in omega arith)

    new_rows_held : AllHeld (IsIn (has v)) (in_order (bare new_cut))
    new_rows_held q some = dite (ℕ_discrete here q) (λ e. subst (IsIn (has v)) e here_held)
        (λ ne. held_new q (let z : one_if (nat_eq here q) ≡ 0 = ap one_if (ne_eqb here q ne) in
        let a = around_times l.place here (d here) new q in omega arith))

    -- with the row that stays

    beside_loosens : (p : Place) → RowStays v plan here p → IsLawful (pairs_in c (bare (around p here (c here) l.sub)))
        → Looser (ends c (around p here (c here) l.sub) None None) (ends d (around p here (d here) new) None None)
    beside_loosens below_top b lawful = loose
    beside_loosens on_left b lawful =
        side_loosens c d (left_of here) l.sub new lawful loose (ap (λ (x : Pair). x.range) b.0) b.1
    beside_loosens on_right b lawful =
        side_loosens c d (right_of here) l.sub new lawful loose (ap (λ (x : Pair). x.range) b.0) b.1

    beside_rows : (p : Place) → SameRows (around p here (c here) l.sub) (around p here (d here) new) taken given
    beside_rows below_top = same
    beside_rows on_left = side_has_same_rows c d (left_of here) l.sub new taken given same
    beside_rows on_right = side_has_same_rows c d (right_of here) l.sub new taken given same

    shows_new : (p : Place) → TopIs p tree here l.top → Shows d (link_at p (d here)) new
        → Shows d (top_link l.top (d tree)) (around p here (d here) new)
    shows_new below_top is sh =
        subst (λ (t : Top). Shows d (top_link t (d tree)) new) (sym is.1) (subst (λ (n : ℕ). Shows d (d n).left new) is.0 sh)
    shows_new on_left is sh =
        subst (λ (t : Top). Shows d (top_link t (d tree)) (around on_left here (d here) new)) (sym is.1) (refl, sh, refl)
    shows_new on_right is sh =
        subst (λ (t : Top). Shows d (top_link t (d tree)) (around on_right here (d here) new)) (sym is.1) (refl, refl, sh)

    far_left : l.place ≡ on_left → v.plan.trees < here
    far_left e =
        (row_further v tree asked here rows hangs more l lt here
        (subst (λ (p : Place). 0 < times here (in_order (bare (around p here (c here) l.sub)))) (sym e)
        (let s = times-++ here (in_order (bare l.sub)) (here ∷ []) in
        let o : one_if (nat_eq here here) ≡ 1 = ap one_if (eq-eqb here here refl) in omega arith))).0

    far_right : l.place ≡ on_right → v.plan.trees < here
    far_right e =
        (row_further v tree asked here rows hangs more l lt here
        (subst (λ (p : Place). 0 < times here (in_order (bare (around p here (c here) l.sub)))) (sym e)
        (let o : one_if (nat_eq here here) ≡ 1 = ap one_if (eq-eqb here here refl) in omega arith))).0

    link_stays : (p : Place) → l.place ≡ p → TopIs p tree here l.top → TopStays (IsIn (has v)) (planned_rows plan) tree l.top c d
    link_stays below_top e is = subst (λ (t : Top). TopStays (IsIn (has v)) (planned_rows plan) tree t c d) (sym is.1) tt
    link_stays on_left e is =
        subst (λ (t : Top). TopStays (IsIn (has v)) (planned_rows plan) tree t c d) (sym is.1) (inl (no_anchor (far_left e)))
    link_stays on_right e is =
        subst (λ (t : Top). TopStays (IsIn (has v)) (planned_rows plan) tree t c d) (sym is.1) (inl (no_anchor (far_right e)))

    others_of : (p : Place) → TopIs p tree here l.top
        → PlansOnly (tree ∷ v.plan.trees ∷ in_order (bare (around p here (c here) l.sub)) ++ taken) (planned_rows plan)
    others_of below_top is q z = (subst (λ (n : ℕ). PlansOnly (n ∷ v.plan.trees ∷ in_order (bare l.sub) ++ taken) (planned_rows plan)) is.0 only) q z
    others_of on_left is q z =
        only q
        (let s = times-++ q (in_order (bare l.sub) ++ here ∷ []) taken in
        let t = times-++ q (in_order (bare l.sub)) (here ∷ []) in
        let u = times-++ q (in_order (bare l.sub)) taken in omega arith)
    others_of on_right is q z = only q (omega arith)

    lays : PlanLays (IsIn (has v)) (planned_rows plan) v.plan.trees tree l.top c d cut new_cut taken given
    lays = record {
      part = part_held v tree asked here rows hangs more l lt;
      shows = shows_new l.place l.top_is shows;
      new_held = new_rows_held;
      loose = beside_loosens l.place stays (whole_lawful v tree asked here rows hangs more l lt);
      pool = pool;
      rows = beside_rows l.place;
      link = link_stays l.place refl l.top_is;
      others = others_of l.place l.top_is;
    }

    shown_by : (p : Place) → l.place ≡ p → TopIs p tree here l.top → KnowsTop v tree l.top l.score → RowStays v plan here p
        → Beside p asked (c here).range → IsLawful (pairs_in c (bare (around p here (c here) l.sub)))
        → ShowsFor v.plan v plan txn deed l.top l.score (around p here (c here) l.sub) (around p here (d here) new)
    shown_by below_top e is knows b on lawful =
        subst (λ (t : Top). ShowsFor v.plan v plan txn deed t l.score l.sub new) (sym is.1)
        (subst (λ (n : ℕ). ShowsDeed (setting_of v.plan) txn deed c d l.sub new (mode_before v plan n) (mode_after v plan n)) (sym at)
        (below e (subst (λ (t : Top). KnowsTop v tree t l.score) is.1 knows)))
    shown_by on_left e is knows b on lawful =
        subst (λ (t : Top). ShowsFor v.plan v plan txn deed t l.score (beside c (left_of here) l.sub) (beside d (left_of here) new))
        (sym is.1)
        (inr (
          ap (λ (n : ℕ). times n (planned_rows plan)) at ∙ no_anchor (far_left e),
          λ s full. side s (left_of here) (subst IsBesideRow (sym e) tt) full lawful on.0 b.0,
        ))
    shown_by on_right e is knows b on lawful =
        subst (λ (t : Top). ShowsFor v.plan v plan txn deed t l.score (beside c (right_of here) l.sub) (beside d (right_of here) new))
        (sym is.1)
        (inr (
          ap (λ (n : ℕ). times n (planned_rows plan)) at ∙ no_anchor (far_right e),
          λ s full. side s (right_of here) (subst IsBesideRow (sym e) tt) full lawful on.0 b.0,
        ))

    in_part : (pass : ℕ) → InTree v.plan v (record { pass = pass; txn = txn; deed = deed }) plan
    in_part pass = record {
      top = l.top;
      score = l.score;
      cut = cut;
      new = new_cut;
      taken = taken;
      given = given;
      knows = subst (λ (t : ℕ). KnowsTop v t l.top l.score) (sym at) l.knows;
      lays = subst (λ (t : ℕ). PlanLays (IsIn (has v)) (planned_rows plan) v.plan.trees t l.top c d cut new_cut taken given) (sym at) lays;
      closed = subst (λ (r : Interval). IsClosedFor r l.top c cut) (sym on) (locked_is_closed v tree asked here rows hangs more l closed);
      shows = shown_by l.place refl l.top_is l.knows stays l.beside (whole_lawful v tree asked here rows hangs more l lt);
      question = question;
    }

    pub relay_commits : (e : Event) (change : ℤ) → e.pass + 1 ≡ v.mark → e.txn ≡ txn → e.deed ≡ deed
        → ((k : ℕ) → change +ℤ pos (length (in_order (bare l.sub)) + k) ≡ pos (length (in_order (bare new)) + k))
        → (0 < length taken → v.licensed ≡ true) → IsCommit v.plan v e plan change
    unfolding in_part
    relay_commits e change pass by is counts licensed =
        let a = length_around l.place here (c here) (d here) l.sub new in
        record {
          pass = pass;
          tree = subst (λ (t : ℕ). t < v.plan.trees) (sym (ap tree_of is ∙ at)) lt;
          how = in_tree (subst (λ (x : ℕ × Deed). InTree v.plan v (record { pass = e.pass; txn = x.0; deed = x.1 }) plan)
              (λ j. (sym by j, sym is j)) (in_part e.pass));
          change_is = ap (λ (n : ℕ). change +ℤ pos n) a.1 ∙ (counts a.0 ∙ ap (λ (n : ℕ). pos n) (sym a.2));
          licence = λ grows. licensed (let t = same.all in let e0 = a.1 in let e1 = a.2 in omega arith);
        }
