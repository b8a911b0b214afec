-- The plan of a free meets what a commit asks.
use Rattle.std.proofs.Common.{◌≡◌, inl, ℕ, ◌+◌, ◌<◌, ◌≤◌, Bool, true, false, not, List, [], ◌∷◌, ◌++◌, refl, sym, ap, ◌∙◌, subst, arith, if◌then◌else◌}
use Rattle.std.specs.Prelude.{slice_index, reverse}
use Rattle.std.specs.List.{filter}
use Rattle.lt_ranges.specs.Interval.{Interval, IsInterval}
use Rattle.lt_seq.specs.Table.{raised}
use Rattle.lt_forest.specs.declared.part.PartRow.{PartRow}
use Rattle.lt_forest.specs.Counts.{times}
use Rattle.lt_forest.specs.Trees.{Node}
use Rattle.lt_forest.specs.Parts.{numbers}
use Rattle.lt_forest.specs.Items.{LeavesOut}
use Rattle.lt_forest.specs.Forest.{IsRun}
use Rattle.lt_forest.specs.Views.{IsIn, PlansOnly, PoolPlan, from_pool}
use Rattle.lt_forest.proofs.SameRows.{times-++}
use Rattle.lt_rows.specs.declared.view.View.{View}
use Rattle.lt_rows.specs.declared.image.RowImage.{RowImage}
use Rattle.lt_rows.specs.Nodes.{node_of}
use Rattle.lt_rows.specs.Views.{has, planned_rows}
use Rattle.lt_rows.specs.Lawful.{shown, shown_after, mode_before, mode_after}
use Rattle.lt_rows.proofs.ThreeRows.{is_left, link_left}
use Rattle.lt_tree.specs.Gathers.{Place, below_top, on_left, on_right, TopIs, IsLockedWith, IsClosed}
use Rattle.lt_locktree.specs.Given.{IsChained, given_to}
use Rattle.lt_locktree.specs.LawsOfFrees.{goes, freed_rows, RaisesAnchor}
use Rattle.lt_locktree.specs.LawsOfFreePlans.{RaisesImage, FreePlanCommits}
use Rattle.lt_locktree.specs.PlannedParts.{InPlan, PlansRows, IsLoaded, ShowsRow}
use Rattle.lt_locktree.specs.RelaidRows.{LaysRows}
use Rattle.lt_locktree.proofs.GrantedRuns.{numbers_are, sub_held}
use Rattle.lt_locktree.proofs.PlannedRows.{in_left, in_right}
use Rattle.lt_locktree.proofs.DrawnParts.{planned_app}
use Rattle.lt_locktree.proofs.LaidParts.{loaded_at, plan_times, planned_image, other_planned, laid_rows, anchor_gets}
use Rattle.lt_locktree.proofs.PlanLaws.{all_once}
use Rattle.lt_locktree.proofs.MergedPlans.{one_of, times_reversed, are_reversed, chained_times, chained_run}
use Rattle.lt_locktree.proofs.FreedParts.{free_commits}

-- each row stays or goes
pub parted : (txn : ℕ) (range : Interval) (rows : List PartRow) (q : ℕ)
    → times q (numbers (filter (λ r. not (goes txn range r)) rows)) + times q (numbers (freed_rows txn range rows)) ≡ times q (numbers rows)
parted txn range [] q = refl
parted txn range (r ∷ rows) q = by (goes txn range r) (parted txn range rows q)
  where
    by : (b : Bool) → times q (numbers (filter (λ x. not (goes txn range x)) rows)) + times q (numbers (freed_rows txn range rows)) ≡ times q (numbers rows)
        → times q (numbers (if not b then r ∷ filter (λ x. not (goes txn range x)) rows else filter (λ x. not (goes txn range x)) rows))
        + times q (numbers (if b then r ∷ freed_rows txn range rows else freed_rows txn range rows)) ≡ times q (numbers (r ∷ rows))
    by true e = omega arith
    by false e = omega arith

module _ (v : View) (tree : ℕ) (asked : Interval) (here : ℕ) (rows : List PartRow) (hangs more : List ℕ)
    (l : IsLockedWith v tree asked here rows hangs more) (closed : IsClosed asked rows hangs) (lt : tree < v.plan.trees)
    (interval : IsInterval asked) (pool : RowImage) (pool_in : 0 < times v.plan.trees more) (pool_loaded : IsLoaded v v.plan.trees pool)
    (txn : ℕ) (rows' : List PartRow) (hangs' : List ℕ) (left_out : LeavesOut (λ r. not (goes txn asked r)) rows hangs rows' hangs')
    (chained : List RowImage) (link : ℕ) (chains : IsChained chained link (reverse (freed_rows txn asked rows)) (slice_index pool.words 17))
    (stays : RowImage) (loaded : ShowsRow v here stays) (plan : List RowImage)
    (plans : PlansRows tree asked stays (chained ++ given_to pool link ∷ []) plan rows' hangs') where
  abbrev gone : List PartRow
  gone = freed_rows txn asked rows

  abbrev others : List RowImage
  others = chained ++ given_to pool link ∷ []

  has_pool : IsIn (has v) v.plan.trees
  has_pool = l.held_more.held v.plan.trees pool_in

  chained_is : (q : ℕ) → times q (planned_rows chained) ≡ times q (numbers gone)
  chained_is q = chained_times chained link (reverse gone) (slice_index pool.words 17) q chains ∙ times_reversed gone q

  others_times : (q : ℕ) → times q (planned_rows others) ≡ times q (numbers gone) + times q (v.plan.trees ∷ [])
  others_times q =
      ap (times q) (planned_app chained (given_to pool link ∷ []))
      ∙ (times-++ q (planned_rows chained) (pool.row ∷ [])
      ∙ (λ j. chained_is q j + times q (pool_loaded.row j ∷ [])))

  parts : (q : ℕ) → times q (numbers rows') + times q (numbers gone) ≡ times q (numbers rows)
  parts q = ap (λ (rs : List PartRow). times q (numbers rs) + times q (numbers gone)) left_out.new_rows ∙ parted txn asked rows q

  more_than : (q : ℕ) → times q (v.plan.trees ∷ []) ≤ times q more
  more_than q = one_of more v.plan.trees q pool_in

  once : (q : ℕ) → times q (planned_rows others) + times q (numbers rows') + times q (here ∷ []) ≤ 1
  once q =
      let a = all_once v tree asked here rows hangs more l closed lt q in
      let b = others_times q in
      let p = parts q in
      let m = more_than q in
      omega arith

  pub free_laid : LaysRows v plan l.place here rows' hangs'
  free_laid = laid_rows v tree asked here rows hangs more l lt interval stays loaded others plan rows' hangs' plans once

  pub free_raises : (first : Bool) → RaisesImage v tree stays first l.place → RaisesAnchor v plan tree first l.place
  free_raises first raises = by l.place refl raises
    where
      by : (p : Place) → l.place ≡ p → RaisesImage v tree stays first p → RaisesAnchor v plan tree first p
      by below_top at b =
          subst (λ (n : ℕ). mode_after v plan n ≡ raised first (mode_before v plan tree))
          (subst (λ (p : Place). TopIs p tree here l.top) at l.top_is).0
          (anchor_gets v tree asked here rows hangs more l lt interval stays loaded others plan rows' hangs' plans once at ∙ b)
      by on_left at b = tt
      by on_right at b = tt

  -- what the rows that go and the pool's anchor hold behind the plan
  holds_others : (p : RowImage) → InPlan p others → shown_after v plan p.row ≡ node_of p.words
  holds_others p h =
      ap node_of (planned_image v tree asked here rows hangs more l lt interval stays loaded others plan rows' hangs' plans once p
      (other_planned v tree asked here rows hangs more l lt interval stays loaded others plan rows' hangs' plans once p h))

  gone_held : (q : ℕ) → 0 < times q (numbers (reverse gone)) → IsIn (has v) q
  gone_held q some =
      sub_held v tree asked here rows hangs more l closed lt q
      (let e = ap (times q) (numbers_are v tree asked here rows hangs more l closed lt) in let p = parts q in let g = times_reversed gone q in omega arith)

  pub free_pool : PoolPlan (IsIn (has v)) (planned_rows plan) v.plan.trees (shown v plan) (shown_after v plan) [] (numbers (reverse gone))
  free_pool = from_pool has_pool (λ q some. absurd (omega arith)) gone_held
      record {
        rest = slice_index pool.words 17;
        takes = ap (λ (ws : List ℕ). (node_of ws).left) (loaded_at v tree asked here rows hangs more l lt interval v.plan.trees pool has_pool pool_loaded)
            ∙ is_left pool.words;
        gives = subst (λ (n : ℕ). IsRun (shown_after v plan) n (numbers (reverse gone)) (slice_index pool.words 17))
            (sym (ap (λ (n : ℕ). (shown_after v plan n).left) (sym pool_loaded.row)
            ∙ (ap (λ (n : Node). n.left) (holds_others (given_to pool link) (in_right (given_to pool link) chained (given_to pool link ∷ []) (inl refl)))
            ∙ link_left pool.words link pool_loaded.long)))
            (chained_run (shown_after v plan) chained link (reverse gone) (slice_index pool.words 17)
            (λ p h. holds_others p (in_left p chained (given_to pool link ∷ []) h)) chains);
      }

  pub free_times : (q : ℕ) → times q (planned_rows plan) ≡ times q (numbers rows) + times q (v.plan.trees ∷ []) + times q (here ∷ [])
  free_times q =
      let a = plan_times v tree asked here rows hangs more l lt interval stays loaded others plan rows' hangs' plans once q in
      let b = others_times q in
      let p = parts q in
      omega arith

  pub free_only : PlansOnly (here ∷ v.plan.trees ∷ numbers rows) (planned_rows plan)
  free_only q none = let t = free_times q in omega arith

pub free_plan_commits : FreePlanCommits
free_plan_commits v tree asked here rows rows' hangs hangs' more stays pool chained plan link first e change l closed lt interval keeps raises left_out pool_in loaded
    pool_loaded chains plans pass is counts =
    let laid = free_laid v tree asked here rows hangs more l closed lt interval pool pool_in pool_loaded e.txn rows' hangs' left_out chained link chains
    stays loaded plan plans in
    free_commits v tree asked here rows rows' hangs hangs' more (numbers (reverse (freed_rows e.txn asked rows))) first plan e change l closed lt interval
    keeps left_out laid
    (free_raises v tree asked here rows hangs more l closed lt interval pool pool_in pool_loaded e.txn rows' hangs' left_out chained link chains
    stays loaded plan plans first raises)
    (are_reversed (freed_rows e.txn asked rows))
    (free_pool v tree asked here rows hangs more l closed lt interval pool pool_in pool_loaded e.txn rows' hangs' left_out chained link chains
    stays loaded plan plans)
    (free_only v tree asked here rows hangs more l closed lt interval pool pool_in pool_loaded e.txn rows' hangs' left_out chained link chains
    stays loaded plan plans)
    pass is counts
