-- The ask for which several rows become one, as a function asks for it.
use Rattle.std.proofs.Common.{◌≡◌, ℕ, ◌+◌, ◌-◌, ◌<◌, ◌≤◌, true, List, [], ◌∷◌, ◌++◌, length, map, take, drop, refl, sym, ap, ◌∙◌, subst, arith, ne_eqb}
use Rattle.std.specs.Prelude.{pos, ℤ, ◌+ℤ◌, nat_eq, reverse, slice_index}
use Rattle.std.specs.List.{AllWithin}
use Rattle.std.proofs.lemmas.List.{length-take-le}
use mathlib.Core.Logic.{dite}
use native.Mathlib.Decide.{ℕ_discrete}
use Rattle.lt_ranges.specs.Interval.{Interval, IsInterval}
use Rattle.lt_seq.specs.declared.event.Deed.TheVariants.{Ask}
use Rattle.lt_seq.specs.declared.event.Pair.{Pair}
use Rattle.lt_seq.specs.declared.event.Reply.TheVariants.{Granted}
use Rattle.lt_rows.specs.declared.row_plan.RowPlan.{RowPlan}
use Rattle.lt_seq.specs.Pairs.{is_own}
use Rattle.lt_forest.specs.declared.part.Part.{Part}
use Rattle.lt_forest.specs.declared.part.PartRow.{PartRow}
use Rattle.lt_forest.specs.Counts.{one_if, times}
use Rattle.lt_forest.specs.Pairs.{Has}
use Rattle.lt_forest.specs.Parts.{row_pair}
use Rattle.lt_forest.specs.Views.{IsIn}
use Rattle.lt_rows.specs.declared.image.RowImage.{RowImage}
use Rattle.lt_rows.specs.declared.pass.RowPass.{RowPass}
use Rattle.lt_rows.specs.declared.view.View.{View}
use Rattle.lt_rows.specs.Handles.{knows}
use Rattle.lt_rows.specs.Lawful.{IsCommit}
use Rattle.lt_rows.specs.Views.{has, AllHeld, planned_rows}
use Rattle.lt_rows.proofs.Planned.{held_row}
use Rattle.lt_tree.specs.Gathers.{IsLockedWith, IsClosed}
use Rattle.lt_locktree.specs.declared.asking.Asking.{Asking}
use Rattle.lt_locktree.specs.Given.{IsChained, given_to}
use Rattle.lt_locktree.specs.LawsOfGrants.{StandsBetween, merged_row}
use Rattle.lt_locktree.specs.Makes.{IsOf}
use Rattle.lt_locktree.specs.Mergings.{run_of, PlansMerged}
use Rattle.lt_locktree.specs.PlannedParts.{PlansRows, IsLoaded}
use Rattle.lt_locktree.proofs.GrantedRuns.{numbers_are}
use Rattle.lt_locktree.proofs.GrownServed.{all_held}
use Rattle.lt_locktree.proofs.MergedPlans.{numbers_merged, merged_times, merged_plan_commits}
use Rattle.lt_locktree.proofs.MergedRows.{run_long, stands_at, all_own, has_own}

-- the rows that the plan names are held
merged_rows_held : (v : View) (tree : ℕ) (asked : Interval) (here : ℕ) (ahead : List PartRow) (r one : PartRow) (run behind : List PartRow)
    (hangs more new_hangs : List ℕ) (l : IsLockedWith v tree asked here (ahead ++ (r ∷ run ++ behind)) hangs more)
    → IsClosed asked (ahead ++ (r ∷ run ++ behind)) hangs → tree < v.plan.trees → IsInterval asked
    → (stays pool : RowImage) (given : List RowImage) (link : ℕ) → 0 < times v.plan.trees more → IsLoaded v here stays
    → IsLoaded v v.plan.trees pool → IsChained given link (reverse run) (slice_index pool.words 17) → (plan : List RowImage) → one.row ≡ r.row
    → PlansRows tree asked stays (given ++ given_to pool link ∷ []) plan (ahead ++ one ∷ behind) new_hangs → AllHeld v.held plan
merged_rows_held v tree asked here ahead r one run behind hangs more new_hangs l closed lt interval stays pool given link pool_in loaded pool_loaded
    chained plan same plans =
    all_held v.held plan (λ q some. held_row v q (is_held q some))
  where
    in_more : (q : ℕ) → 0 < times q (v.plan.trees ∷ []) → IsIn (has v) q
    in_more q some = dite (ℕ_discrete v.plan.trees q)
        (λ e. subst (IsIn (has v)) e (l.held_more.held v.plan.trees pool_in))
        (λ ne. let z : one_if (nat_eq v.plan.trees q) ≡ 0 = ap one_if (ne_eqb v.plan.trees q ne) in absurd (omega arith))

    is_held : (q : ℕ) → 0 < times q (planned_rows plan) → IsIn (has v) q
    is_held q some =
        let rows : List PartRow = ahead ++ (r ∷ run ++ behind) in
        let t = merged_times v tree asked here rows hangs more l closed lt interval stays pool given link run pool_in loaded pool_loaded chained plan
        (ahead ++ one ∷ behind) new_hangs plans (λ n. numbers_merged ahead one r run behind n same) q in
        let n = ap (times q) (numbers_are v tree asked here rows hangs more l closed lt) in
        dite (ℕ_discrete (times q (v.plan.trees ∷ [])) 0)
        (λ z. l.held_rows q (omega arith))
        (λ ne. in_more q (omega arith))

module _ (pass : RowPass) (k : RowPlan) (tree : ℕ) (asked : Interval) (here : ℕ) (part : Part) (more : List ℕ)
    (l : IsLockedWith (knows pass) tree asked here part.rows.items part.hangs.items more) (closed : IsClosed asked part.rows.items part.hangs.items)
    (plan_is : (knows pass).plan ≡ k) (lt : tree < k.trees) (a : Asking) (of : IsOf pass tree asked a) (interval : IsInterval a.range)
    (marked : (knows pass).mark ≡ pass.number + 1) (pool_in : 0 < times (knows pass).plan.trees more)
    (stays pool : RowImage) (loaded : IsLoaded (knows pass) here stays) (pool_loaded : IsLoaded (knows pass) (knows pass).plan.trees pool)
    (start end : ℕ) (some : start < end) (within : end ≤ length part.rows.items)
    (between : StandsBetween a.range (take start part.rows.items) (drop end part.rows.items))
    (own : AllWithin (λ r. is_own a.txn a.range (row_pair r) ≡ true) part.rows.items start end)
    (plan : List RowImage) (merged : PlansMerged a stays pool part start end plan) where
  abbrev v : View
  v = knows pass

  abbrev rows : List PartRow
  rows = part.rows.items

  abbrev hangs : List ℕ
  hangs = part.hangs.items

  abbrev run : List PartRow
  run = run_of rows start end

  abbrev all : List PartRow
  all = take start rows ++ (merged.r ∷ run ++ drop end rows)

  abbrev new_hangs : List ℕ
  new_hangs = take (length (take start rows) + 1) hangs ++ drop (length (take start rows) + 1 + length run) hangs

  lt_here : tree < v.plan.trees
  lt_here = subst (λ (p : RowPlan). tree < p.trees) (sym plan_is) lt

  asked_is : IsInterval asked
  asked_is = subst IsInterval of.2 interval

  locked_here : IsLockedWith v tree asked here all hangs more
  locked_here = subst (λ (rs : List PartRow). IsLockedWith v tree asked here rs hangs more) merged.run_at l

  closed_here : IsClosed asked all hangs
  closed_here = subst (λ (rs : List PartRow). IsClosed asked rs hangs) merged.run_at closed

  own_here : (p : Pair) → Has p (map row_pair (merged.r ∷ run)) → is_own a.txn asked p ≡ true
  own_here p h =
      subst (λ (i : Interval). is_own a.txn i p ≡ true) of.2
      (has_own a.txn a.range (merged.r ∷ run)
      (all_own a.txn a.range rows start end merged.r some within (stands_at rows start end merged.r some within merged.run_at) own) p h)

  long : length (take start rows) ≡ start
  long = length-take-le start rows (omega (arith, some, within))

  end_is : end ≡ length (take start rows) + 1 + length run
  end_is = let m = run_long rows start end some within in omega (arith, long, m, some)

  plans_here : PlansRows tree asked stays (merged.given ++ given_to pool merged.link ∷ []) plan
      (take start rows ++ merged_row a.txn asked merged.r run ∷ drop end rows) new_hangs
  plans_here =
      subst (λ (x : (ℕ × Interval) × (ℕ × ℕ)). PlansRows x.0.0 x.0.1 stays (merged.given ++ given_to pool merged.link ∷ []) plan
      (take start rows ++ merged_row a.txn x.0.1 merged.r run ∷ drop end rows) (take (x.1.0 + 1) hangs ++ drop x.1.1 hangs))
      (λ j. ((of.1 j, of.2 j), (sym long j, end_is j))) merged.plans

  -- both that a search's end asks of the plan
  pub merged_all : (change : ℤ) → change +ℤ pos (end - start - 1) ≡ pos 0
      → AllHeld v.held plan
      × IsCommit v.plan v record { pass = a.pass; txn = a.txn; deed = Ask a.tree a.range Granted } plan change
  merged_all change counts =
      let m = run_long rows start end some within in
      let fewer : length run ≡ end - start - 1 = omega (arith, m, some) in (
        merged_rows_held v tree asked here (take start rows) merged.r (merged_row a.txn asked merged.r run) run (drop end rows) hangs more new_hangs
            locked_here closed_here lt_here asked_is stays pool merged.given merged.link pool_in loaded pool_loaded merged.chained plan refl
            plans_here,
        merged_plan_commits v tree asked here (take start rows) merged.r run (drop end rows) hangs more stays pool merged.given merged.link plan
            record { pass = a.pass; txn = a.txn; deed = Ask a.tree a.range Granted } change locked_here closed_here lt_here asked_is
            (subst (λ (i : Interval). StandsBetween i (take start rows) (drop end rows)) of.2 between) own_here pool_in loaded pool_loaded
            merged.chained plans_here (ap (λ (n : ℕ). n + 1) of.0 ∙ sym marked) (λ j. Ask (of.1 j) (of.2 j) Granted)
            (ap (λ (n : ℕ). change +ℤ pos n) fewer ∙ counts),
      )
