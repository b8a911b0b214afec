-- What a search holds, as rows that it may give back: each once.
use Rattle.std.proofs.Common.{◌≡◌, ℕ, ◌+◌, ◌<◌, ◌≤◌, List, [], ◌∷◌, ◌++◌, map, refl, sym, ap, ◌∙◌, subst, arith, ne_eqb, Bool, true, false}
use Rattle.std.specs.Prelude.{nat_eq}
use mathlib.Core.Logic.{dite}
use native.Mathlib.Decide.{ℕ_discrete}
use Rattle.lt_ranges.specs.Interval.{Interval}
use Rattle.lt_seq.specs.declared.event.Mode.{Mode}
use Rattle.lt_seq.specs.Table.{TreeState}
use Rattle.lt_rows.specs.Plan.{setting_of}
use Rattle.lt_seq.proofs.LawfulLaws.{sound_history}
use Rattle.lt_forest.specs.declared.part.PartRow.{PartRow}
use Rattle.lt_forest.specs.Counts.{one_if, times}
use Rattle.lt_forest.specs.Trees.{Nodes, in_order}
use Rattle.lt_forest.specs.Cuts.{Cut, bare}
use Rattle.lt_forest.specs.Forest.{Forest}
use Rattle.lt_forest.specs.Parts.{part_row, numbers}
use Rattle.lt_forest.specs.Plans.{Top, from_anchor, IsPart}
use Rattle.lt_forest.specs.Views.{IsIn}
use Rattle.lt_forest.proofs.SameRows.{times-++, one_here}
use Rattle.lt_forest.proofs.ForestLaws.{one_place}
use Rattle.lt_forest.proofs.FurtherRows.{in_tree_further}
use Rattle.lt_forest.proofs.PartLaws.{rows_are}
use Rattle.lt_forest.proofs.PlansInView.{true_part}
use Rattle.lt_rows.specs.declared.view.View.{View}
use Rattle.lt_rows.specs.Views.{has}
use Rattle.lt_rows.specs.Lawful.{shown}
use Rattle.lt_rows.proofs.Planned.{view_is, held_row}
use Rattle.lt_rows.proofs.WoodCommits.{seen_top, mode_top}
use Rattle.lt_tree.specs.Gathers.{Place, below_top, on_left, on_right, around, TopIs, IsLockedWith}
use Rattle.lt_tree.specs.Puttings.{Backs}
use Rattle.lt_tree.proofs.WideningLaws.{holds_part}

-- a row of a part stands in it once, and is a further row
abbrev pub IsOnce : ℕ → Cut → ℕ → Type 0
IsOnce trees cut r = (times r (in_order (bare cut)) ≤ 1) × (0 < times r (in_order (bare cut)) → trees < r)

part_once : {trees rows t : ℕ} {c : Nodes} {mode : ℕ → Mode} {state : List TreeState} {f : Forest} {top : Top} {cut : Cut}
    → IsPart trees rows c mode state f t top cut → (r : ℕ) → IsOnce trees cut r
part_once part r =
    let are = rows_are part r in
    let m = one_place part.forest _ part.tree r in
    (omega arith, λ some. (in_tree_further part.forest _ r part.tree (omega arith)).0)

numbers_are : (c : Nodes) (xs : List ℕ) → numbers (map (part_row c) xs) ≡ xs
numbers_are c [] = refl
numbers_are c (x ∷ xs) = ap (λ (l : List ℕ). x ∷ l) (numbers_are c xs)

module _ (v : View) (tree : ℕ) (asked : Interval) (here : ℕ) (rows : List PartRow) (hangs : List ℕ)
    {more : List ℕ} (l : IsLockedWith v tree asked here rows hangs more) (lt : tree < v.plan.trees) where
  pub whole_once : (r : ℕ) → IsOnce v.plan.trees (around l.place here (shown v [] here) l.sub) r
  whole_once r =
      let st = l.teaches.2 in
      let log = l.teaches.0 in
      let part = holds_part v tree asked here rows hangs l lt in
      let agree = (view_is v [] st.contents st.agrees).before in
      let seen = seen_top v.plan v [] st.forest st.contents log st.shape st.agrees st.gaps tree lt l.top l.score l.knows in
      let mode = mode_top v.plan v [] st.forest st.contents log st.shape st.agrees st.gaps tree lt l.top l.score part.top_held l.knows in
      part_once (true_part agree part st.shape.forest (sound_history (setting_of v.plan) log st.shape.legal) lt mode seen) r

  held_once : (p : Place) → TopIs p tree here l.top → (r : ℕ) → IsOnce v.plan.trees (around p here (shown v [] here) l.sub) r
      → times r (here ∷ in_order (bare l.sub)) ≤ 1
  held_once below_top is r once = dite (ℕ_discrete here r)
      (λ e. dite (ℕ_discrete (times r (in_order (bare l.sub))) 0)
      (λ z. (let o = at_most_one (nat_eq here r) in omega arith))
      (λ ne. absurd (let more = once.1 (omega arith) in let same = is.0 in omega arith)))
      (λ ne. (let z : one_if (nat_eq here r) ≡ 0 = ap one_if (ne_eqb here r ne) in let o = once.0 in omega arith))
    where
      at_most_one : (b : Bool) → one_if b ≤ 1
      at_most_one true = omega arith
      at_most_one false = omega arith
  held_once on_left is r once = let s = times-++ r (in_order (bare l.sub)) (here ∷ []) in let o = once.0 in omega arith
  held_once on_right is r once = let o = once.0 in omega arith

  -- the anchor stands in no cut
  pub anchor_top : here ≡ tree → (l.place ≡ below_top) × (l.top ≡ from_anchor)
  anchor_top e = go l.place refl l.top_is (whole_once here)
    where
      go : (p : Place) → l.place ≡ p → TopIs p tree here l.top → IsOnce v.plan.trees (around p here (shown v [] here) l.sub) here
          → (l.place ≡ below_top) × (l.top ≡ from_anchor)
      go below_top p_is is once = (p_is, is.1)
      go on_left p_is is once =
          let t = times-++ here (in_order (bare l.sub)) (here ∷ []) in let o = one_here here in let far = once.1 (omega arith) in absurd (omega arith)
      go on_right p_is is once = let o = one_here here in let far = once.1 (omega arith) in absurd (omega arith)

  rows_in : numbers rows ≡ in_order (bare l.sub)
  rows_in = ap numbers (sym l.rows_are) ∙ numbers_are (shown v []) (in_order (bare l.sub))

  abbrev both : ℕ → ℕ
  both q = times q (more ++ here ∷ in_order (bare l.sub))

  -- the further rows first
  pub locked_backs : Backs v (more ++ here ∷ numbers rows)
  locked_backs = subst (λ (xs : List ℕ). Backs v (more ++ here ∷ xs)) (sym rows_in) (record {
    keeps = record {
      held = λ q some. held_row v q (both_held q (times-++ q more (here ∷ in_order (bare l.sub))) some);
      once = λ q. both_once q (times-++ q more (here ∷ in_order (bare l.sub)));
      gathers = l.gathers;
    };
    held_all = λ q h. let t = times-++ q more (here ∷ in_order (bare l.sub)) in let a = l.held_all q h in omega arith;
  })
    where
      both_held : (q : ℕ) → both q ≡ times q more + times q (here ∷ in_order (bare l.sub)) → 0 < both q → IsIn (has v) q
      both_held q t some = dite (ℕ_discrete (times q more) 0)
          (λ z. l.held_rows q (omega arith))
          (λ ne. l.held_more.held q (omega arith))

      both_once : (q : ℕ) → both q ≡ times q more + times q (here ∷ in_order (bare l.sub)) → both q ≤ 1
      both_once q t = dite (ℕ_discrete (times q more) 0)
          (λ z. let o = held_once l.place l.top_is q (whole_once q) in omega arith)
          (λ ne. let a = l.held_more.apart q (omega arith) in let o = l.held_more.once q in omega arith)
