-- What a search holds: its pairs are lawful, and those of the part are those of its rows.
use Rattle.std.proofs.Common.{◌≡◌, ℕ, ◌<◌, List, [], map, sym, ap, ◌∙◌}
use Rattle.lt_ranges.specs.Interval.{Interval}
use Rattle.lt_seq.specs.Pairs.{IsLawful}
use Rattle.lt_rows.specs.Plan.{setting_of}
use Rattle.lt_seq.proofs.LawfulLaws.{sound_history}
use Rattle.lt_forest.specs.declared.part.PartRow.{PartRow}
use Rattle.lt_forest.specs.Trees.{pairs_in}
use Rattle.lt_forest.specs.Cuts.{Cut, bare, IsRow}
use Rattle.lt_forest.specs.Parts.{row_pair}
use Rattle.lt_forest.specs.Views.{IsIn, HoldsPart}
use Rattle.lt_forest.proofs.PublicLaws.{held_part_is_further, held_part_is_lawful, rows_show_pairs}
use Rattle.lt_rows.specs.declared.view.View.{View}
use Rattle.lt_rows.specs.Nodes.{nodes, modes}
use Rattle.lt_rows.specs.Views.{has, rows_of}
use Rattle.lt_rows.specs.Lawful.{shown}
use Rattle.lt_rows.proofs.Planned.{view_is}
use Rattle.lt_rows.proofs.WoodCommits.{seen_top, mode_top}
use Rattle.lt_tree.specs.Gathers.{around, IsLockedWith}
use Rattle.lt_tree.proofs.PartLaws.{locked_is_part}

module _ (v : View) (tree : ℕ) (asked : Interval) (here : ℕ) (rows : List PartRow) (hangs more : List ℕ)
    (l : IsLockedWith v tree asked here rows hangs more) (lt : tree < v.plan.trees) where
  abbrev whole_cut : Cut
  whole_cut = around l.place here (shown v [] here) l.sub

  pub part_held : HoldsPart (IsIn (has v)) tree l.top (shown v []) whole_cut
  part_held = (locked_is_part v tree asked here rows hangs more l lt).1

  pub whole_lawful : IsLawful (pairs_in (shown v []) (bare whole_cut))
  whole_lawful =
      let st = l.teaches.2 in
      let log = l.teaches.0 in
      held_part_is_lawful (has v) (shown v []) v.plan.trees (rows_of v.plan) (nodes st.contents) (modes st.contents) _ st.forest tree
      l.top whole_cut st.shape.forest (sound_history (setting_of v.plan) log st.shape.legal) lt
      (mode_top v.plan v [] st.forest st.contents log st.shape st.agrees st.gaps tree lt l.top l.score part_held.top_held l.knows)
      (seen_top v.plan v [] st.forest st.contents log st.shape st.agrees st.gaps tree lt l.top l.score l.knows)
      (view_is v [] st.contents st.agrees).before part_held

  -- each of its rows is a further row
  pub row_further : (q : ℕ) → IsRow q whole_cut → (v.plan.trees < q) × (q < rows_of v.plan)
  row_further q some =
      let st = l.teaches.2 in
      let log = l.teaches.0 in
      held_part_is_further (has v) (shown v []) v.plan.trees (rows_of v.plan) (nodes st.contents) (modes st.contents) _ st.forest tree
      l.top whole_cut q st.shape.forest (sound_history (setting_of v.plan) log st.shape.legal) lt
      (mode_top v.plan v [] st.forest st.contents log st.shape st.agrees st.gaps tree lt l.top l.score part_held.top_held l.knows)
      (seen_top v.plan v [] st.forest st.contents log st.shape st.agrees st.gaps tree lt l.top l.score l.knows)
      (view_is v [] st.contents st.agrees).before part_held some

  pub sub_pairs : map row_pair rows ≡ pairs_in (shown v []) (bare l.sub)
  sub_pairs = ap (λ (xs : List PartRow). map row_pair xs) (sym l.rows_are) ∙ rows_show_pairs (shown v []) l.sub
