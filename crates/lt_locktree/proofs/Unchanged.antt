-- Who holds, and an ask that is held: nothing changes.
use Rattle.std.proofs.Common.{◌≡◌, ℕ, ◌+◌, ◌<◌, inr, List, [], map, length, refl, sym, ap, ◌∙◌, subst, arith}
use Rattle.std.specs.Prelude.{pos}
use Rattle.lt_ranges.specs.Interval.{Interval, IsInterval}
use Rattle.lt_seq.specs.declared.event.Event.{Event}
use Rattle.lt_seq.specs.declared.event.Deed.{Deed}
use Rattle.lt_seq.specs.declared.event.Mode.{Mode}
use Rattle.lt_seq.specs.declared.event.Mode.TheVariants.{Tree as TreeMode}
use Rattle.lt_seq.specs.History.{IsQuestion}
use Rattle.lt_seq.specs.Pairs.{IsLawful}
use Rattle.lt_rows.specs.Plan.{setting_of}
use Rattle.lt_seq.specs.Table.{tree_of}
use Rattle.lt_forest.specs.declared.part.PartRow.{PartRow}
use Rattle.lt_forest.specs.Trees.{Nodes, in_order, pairs_in}
use Rattle.lt_forest.specs.Cuts.{Cut, bare}
use Rattle.lt_forest.specs.Parts.{row_pair}
use Rattle.lt_forest.specs.Plans.{Top, ShowsDeed, IsClosedFor, range_of}
use Rattle.lt_forest.specs.Links.{Slot, left_of, right_of}
use Rattle.lt_forest.specs.Views.{IsIn, PlanLays}
use Rattle.lt_forest.specs.Sides.{IsOnSide}
use Rattle.lt_forest.specs.Sides.{around as beside}
use Rattle.lt_forest.proofs.PlansInView.{unchanged}
use Rattle.lt_rows.specs.declared.view.View.{View}
use Rattle.lt_rows.specs.Views.{has}
use Rattle.lt_rows.specs.Lawful.{shown, mode_before, KnowsTop, ShowsFor, InTree, in_tree, IsCommit}
use Rattle.lt_tree.specs.Gathers.{Place, below_top, on_left, on_right, around, TopIs, Beside, IsLockedWith, IsClosed}
use Rattle.lt_tree.proofs.PartLaws.{locked_is_closed}
use Rattle.lt_locktree.proofs.HeldParts.{part_held, whole_lawful, sub_pairs}

none_more : (n : ℕ) → 0 + n ≡ n
none_more n = omega arith

module _ (v : View) (tree : ℕ) (asked : Interval) (here : ℕ) (rows : List PartRow) (hangs more : List ℕ)
    (l : IsLockedWith v tree asked here rows hangs more) (closed : IsClosed asked rows hangs) (lt : tree < v.plan.trees)
    (interval : IsInterval asked) where
  abbrev c : Nodes
  c = shown v []

  abbrev cut : Cut
  cut = around l.place here (c here) l.sub

  -- a deed for which nothing changes, as the part shows it and as it shows beside a row
  module _ (txn : ℕ) (deed : Deed) (at : tree_of deed ≡ tree) (on : range_of deed ≡ asked) (question : IsQuestion deed)
      (below : (s : ℕ) → (map row_pair rows ≡ pairs_in c (bare l.sub))
      → ShowsDeed (setting_of v.plan) txn deed c c l.sub l.sub (TreeMode s) (TreeMode s))
      (side : (s : ℕ) (h : Slot) → IsLawful (pairs_in c (bare (beside c h l.sub))) → IsOnSide c h asked
      → ShowsDeed (setting_of v.plan) txn deed c c (beside c h l.sub) (beside c h l.sub) (TreeMode s) (TreeMode s)) where
    by_place : (p : Place) (top : Top) → TopIs p tree here top → KnowsTop v tree top l.score
        → Beside p asked (c here).range → IsLawful (pairs_in c (bare (around p here (c here) l.sub)))
        → ShowsFor v.plan v [] txn deed top l.score (around p here (c here) l.sub) (around p here (c here) l.sub)
    by_place below_top top is knows b lawful =
        subst (λ (t : Top). ShowsFor v.plan v [] txn deed t l.score l.sub l.sub) (sym is.1)
        (subst (λ (m : Mode). ShowsDeed (setting_of v.plan) txn deed c c l.sub l.sub m m)
        (sym (ap (λ (n : ℕ). mode_before v [] n) at ∙ subst (λ (t : Top). KnowsTop v tree t l.score) is.1 knows))
        (below l.score (sub_pairs v tree asked here rows hangs more l lt)))
    by_place on_left top is knows b lawful =
        subst (λ (t : Top). ShowsFor v.plan v [] txn deed t l.score (beside c (left_of here) l.sub) (beside c (left_of here) l.sub))
        (sym is.1) (inr (refl, λ s full. side s (left_of here) lawful b.0))
    by_place on_right top is knows b lawful =
        subst (λ (t : Top). ShowsFor v.plan v [] txn deed t l.score (beside c (right_of here) l.sub) (beside c (right_of here) l.sub))
        (sym is.1) (inr (refl, λ s full. side s (right_of here) lawful b.0))

    in_part : (pass : ℕ) → InTree v.plan v (record { pass = pass; txn = txn; deed = deed }) []
    in_part pass = record {
      top = l.top;
      score = l.score;
      cut = cut;
      new = cut;
      taken = [];
      given = [];
      knows = subst (λ (t : ℕ). KnowsTop v t l.top l.score) (sym at) l.knows;
      lays = subst (λ (t : ℕ). PlanLays (IsIn (has v)) [] v.plan.trees t l.top c c cut cut [] []) (sym at)
          (unchanged v.plan.trees (part_held v tree asked here rows hangs more l lt));
      closed = subst (λ (r : Interval). IsClosedFor r l.top c cut) (sym on) (locked_is_closed v tree asked here rows hangs more l closed);
      shows = by_place l.place l.top l.top_is l.knows l.beside (whole_lawful v tree asked here rows hangs more l lt);
      question = question;
    }

    pub stays : (e : Event) → e.pass + 1 ≡ v.mark → e.txn ≡ txn → e.deed ≡ deed → IsCommit v.plan v e [] (pos 0)
    unfolding in_part
    stays e pass by is = record {
      pass = pass;
      tree = subst (λ (t : ℕ). t < v.plan.trees) (sym (ap tree_of is ∙ at)) lt;
      how = in_tree (subst (λ (x : ℕ × Deed). InTree v.plan v (record { pass = e.pass; txn = x.0; deed = x.1 }) [])
          (λ j. (sym by j, sym is j)) (in_part e.pass));
      change_is = ap (λ (n : ℕ). pos n) (none_more (length (in_order (bare cut))));
      licence = λ more. absurd (omega arith);
    }
