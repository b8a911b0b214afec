-- A part that is widened stays closed.
use Rattle.std.proofs.Common.{◌≡◌, ℕ, ◌+◌, ◌<◌, List, [], ◌∷◌, ◌++◌, map, sym, subst}
use Rattle.std.specs.Prelude.{None}
use Rattle.lt_ranges.specs.Interval.{Interval}
use Rattle.lt_seq.specs.Pairs.{IsLawful}
use Rattle.lt_rows.specs.Plan.{setting_of}
use Rattle.lt_seq.proofs.LawfulLaws.{sound_history}
use Rattle.lt_forest.specs.declared.part.PartRow.{PartRow}
use Rattle.lt_forest.specs.Trees.{in_order, pair_of, pairs_in}
use Rattle.lt_forest.specs.Cuts.{Cut, bare, ends, AllAside}
use Rattle.lt_forest.specs.Parts.{rows_of, hangs_of, hanging}
use Rattle.lt_forest.proofs.PairLists.{map_app, lawful_left}
use Rattle.lt_forest.proofs.RowsAndHangs.{ends-hanging}
use Rattle.lt_forest.proofs.HangsAside.{widened_aside}
use Rattle.lt_forest.proofs.PartLaws.{part_lawful}
use Rattle.lt_forest.proofs.PlansInView.{true_part, true_pairs}
use Rattle.lt_rows.specs.declared.view.View.{View}
use Rattle.lt_rows.specs.declared.take.Take.TheVariants.{Taken}
use Rattle.lt_rows.specs.Teaching.{Teaches}
use Rattle.lt_rows.specs.Lawful.{shown}
use Rattle.lt_rows.proofs.Planned.{view_is}
use Rattle.lt_rows.proofs.WoodCommits.{seen_top, mode_top}
use Rattle.lt_tree.specs.States.{Seizes, HasWords}
use Rattle.lt_tree.specs.Gathers.{Place, below_top, on_left, on_right, link_at, around, IsLocked, IsClosed}
use Rattle.lt_tree.proofs.WideningLaws.{holds_part, wide, rows_old, IsWider, widened, widened_cut}

-- the pairs of a part that is held are lawful
module _ (v : View) (tree : ℕ) (asked : Interval) (here : ℕ) (rows : List PartRow) (hangs : List ℕ)
    (l : IsLocked v tree asked here rows hangs) (lt : tree < v.plan.trees) where
  whole_lawful : IsLawful (pairs_in (shown v []) (bare (around l.place here (shown v [] here) l.sub)))
  whole_lawful =
      let st = l.teaches.2 in
      let log = l.teaches.0 in
      let part = holds_part v tree asked here rows hangs l lt in
      let agree = (view_is v [] st.contents st.agrees).before in
      let seen = seen_top v.plan v [] st.forest st.contents log st.shape st.agrees st.gaps tree lt l.top l.score l.knows in
      let mode = mode_top v.plan v [] st.forest st.contents log st.shape st.agrees st.gaps tree lt l.top l.score part.top_held l.knows in
      subst IsLawful (sym (true_pairs agree part))
      (part_lawful (true_part agree part st.shape.forest (sound_history (setting_of v.plan) log st.shape.legal) lt mode seen))

  below : (p : Place) → IsLawful (pairs_in (shown v []) (bare (around p here (shown v [] here) l.sub))) → IsLawful (pairs_in (shown v []) (bare l.sub))
  below below_top h = h
  below on_left h =
      lawful_left (map (pair_of (shown v [])) (in_order (bare l.sub))) (map (pair_of (shown v [])) (here ∷ []))
      (subst IsLawful (map_app (pair_of (shown v [])) (in_order (bare l.sub)) (here ∷ [])) h)
  below on_right h = h.2

  pub sub_lawful : IsLawful (pairs_in (shown v []) (bare l.sub))
  sub_lawful = below l.place whole_lawful

module _ (v : View) (tree : ℕ) (asked : Interval) (here : ℕ) (rows : List PartRow) (hangs : List ℕ)
    (l : IsLocked v tree asked here rows hangs) (lt : tree < v.plan.trees) (w : View) (r : ℕ) (xs ys : List ℕ)
    (at_hang : hangs ≡ xs ++ (r + 1) ∷ ys) (s : Seizes r v w Taken) (teaches : Teaches w) (lt' : tree < w.plan.trees) where
  was_aside : IsClosed asked rows hangs → AllAside asked (ends (shown w []) l.sub None None)
  was_aside closed =
      subst (AllAside asked) (sym (ends-hanging (shown w []) l.sub None None))
      (subst (λ (rs : List PartRow). AllAside asked (hanging rs (hangs_of l.sub) None None))
      (sym (rows_old v tree asked here rows hangs l lt w r xs ys at_hang s teaches))
      (subst (λ (ls : List ℕ). AllAside asked (hanging rows ls None None)) (sym l.hangs_are) closed))

  pub still_closed : (words : List ℕ) (rows' : List PartRow) (hangs' : List ℕ) → HasWords w r words
      → IsWider v tree asked here rows hangs l lt w r xs ys at_hang s teaches words rows' hangs'
      → IsClosed asked rows hangs → IsClosed asked rows' hangs'
  still_closed words rows' hangs' has_r x closed =
      let n : IsLocked w tree asked here rows' hangs' = widened v tree asked here rows hangs l lt w r xs ys at_hang s teaches words rows' hangs' has_r x in
      let k = wide v tree asked here rows hangs l lt w r xs ys at_hang s teaches in
      let cut_is : n.sub ≡ k.wider = widened_cut v tree asked here rows hangs l lt w r xs ys at_hang s teaches words rows' hangs' has_r x in
      let new = widened_aside (shown w []) (link_at l.place (shown w [] here)) l.sub r xs ys k asked
      (subst (λ (c : Cut). IsLawful (pairs_in (shown w []) (bare c))) cut_is (sub_lawful w tree asked here rows' hangs' n lt')) (was_aside closed) in
      subst (λ (rs : List PartRow). AllAside asked (hanging rs hangs' None None))
      (subst (λ (c : Cut). rows_of (shown w []) c ≡ rows') cut_is n.rows_are)
      (subst (λ (ls : List ℕ). AllAside asked (hanging (rows_of (shown w []) k.wider) ls None None))
      (subst (λ (c : Cut). hangs_of c ≡ hangs') cut_is n.hangs_are)
      (subst (AllAside asked) (ends-hanging (shown w []) k.wider None None) new))

pub closed_same : (asked : Interval) (rows rows' : List PartRow) (hangs hangs' : List ℕ) → rows' ≡ rows → hangs' ≡ hangs
    → IsClosed asked rows hangs → IsClosed asked rows' hangs'
closed_same asked rows rows' hangs hangs' e f closed =
    subst (λ (rs : List PartRow). IsClosed asked rs hangs') (sym e) (subst (IsClosed asked rows) (sym f) closed)
