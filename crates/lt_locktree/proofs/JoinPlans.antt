-- The plan of a join meets what a commit asks.
use Rattle.std.proofs.Common.{◌≡◌, inl, ℕ, ◌+◌, ◌<◌, ◌≤◌, List, [], ◌∷◌, ◌++◌, length, replicate, refl, sym, ap, ◌∙◌, subst, arith}
use Rattle.std.specs.Prelude.{slice_index, reverse, pos, ◌+ℤ◌}
use Rattle.std.proofs.lemmas.List.{length-reverse}
use Rattle.lt_ranges.specs.Key.{key_le}
use Rattle.lt_ranges.specs.Interval.{IsInterval, whole}
use Rattle.lt_forest.specs.declared.part.PartRow.{PartRow}
use Rattle.lt_forest.specs.Counts.{times}
use Rattle.lt_forest.specs.Trees.{Node}
use Rattle.lt_forest.specs.Parts.{numbers}
use Rattle.lt_forest.specs.Forest.{IsRun}
use Rattle.lt_forest.specs.Views.{IsIn, PlansOnly, PoolPlan, from_pool}
use Rattle.lt_forest.proofs.SameRows.{times-++}
use Rattle.lt_rows.specs.declared.view.View.{View}
use Rattle.lt_rows.specs.declared.image.RowImage.{RowImage}
use Rattle.lt_rows.specs.Nodes.{node_of, mode_of}
use Rattle.lt_rows.specs.Views.{has, planned_rows}
use Rattle.lt_rows.specs.Lawful.{shown, shown_after, mode_before, mode_after}
use Rattle.lt_rows.proofs.ThreeRows.{is_left, link_left}
use Rattle.lt_tree.specs.Gathers.{Place, below_top, TopIs, IsLockedWith, IsClosed}
use Rattle.lt_locktree.specs.Given.{IsChained, given_to}
use Rattle.lt_locktree.specs.LawsOfJoins.{StayOrGo}
use Rattle.lt_locktree.specs.LawsOfJoinPlans.{JoinPlanCommits}
use Rattle.lt_locktree.specs.PlannedParts.{InPlan, PlansRows, IsLoaded, ShowsRow}
use Rattle.lt_locktree.specs.RelaidRows.{LaysRows}
use Rattle.lt_locktree.proofs.GrantedRuns.{numbers_are, sub_held, length-numbers}
use Rattle.lt_locktree.proofs.PlannedRows.{in_left, in_right}
use Rattle.lt_locktree.proofs.DrawnParts.{planned_app}
use Rattle.lt_locktree.proofs.LaidParts.{loaded_at, plan_times, planned_image, other_planned, laid_rows, anchor_gets}
use Rattle.lt_locktree.proofs.PlanLaws.{all_once}
use Rattle.lt_locktree.proofs.MergedPlans.{one_of, times_reversed, chained_times, chained_run}
use Rattle.lt_locktree.proofs.JoinedParts.{join_commits}

interval : IsInterval whole
unfolding key_le
interval = refl

module _ (v : View) (tree here : ℕ) (rows rows' gone : List PartRow) (more : List ℕ)
    (l : IsLockedWith v tree whole here rows (replicate (length rows + 1) 0) more)
    (closed : IsClosed whole rows (replicate (length rows + 1) 0)) (lt : tree < v.plan.trees)
    (parted : StayOrGo rows rows' (numbers gone))
    (pool : RowImage) (pool_in : 0 < times v.plan.trees more) (pool_loaded : IsLoaded v v.plan.trees pool)
    (chained : List RowImage) (link : ℕ) (chains : IsChained chained link (reverse gone) (slice_index pool.words 17))
    (stays : RowImage) (loaded : ShowsRow v here stays) (plan : List RowImage)
    (plans : PlansRows tree whole stays (chained ++ given_to pool link ∷ []) plan rows' (replicate (length rows' + 1) 0)) where
  abbrev hangs : List ℕ
  hangs = replicate (length rows + 1) 0

  abbrev hangs' : List ℕ
  hangs' = replicate (length rows' + 1) 0

  abbrev others : List RowImage
  others = chained ++ given_to pool link ∷ []

  has_pool : IsIn (has v) v.plan.trees
  has_pool = l.held_more.held v.plan.trees pool_in

  chained_is : (q : ℕ) → times q (planned_rows chained) ≡ times q (numbers gone)
  chained_is q = chained_times chained link (reverse gone) (slice_index pool.words 17) q chains ∙ times_reversed gone q

  others_times : (q : ℕ) → times q (planned_rows others) ≡ times q (numbers gone) + times q (v.plan.trees ∷ [])
  others_times q =
      ap (times q) (planned_app chained (given_to pool link ∷ []))
      ∙ (times-++ q (planned_rows chained) (pool.row ∷ [])
      ∙ (λ j. chained_is q j + times q (pool_loaded.row j ∷ [])))

  parts : (q : ℕ) → times q (numbers rows') + times q (numbers gone) ≡ times q (numbers rows)
  parts q = parted.each q

  more_than : (q : ℕ) → times q (v.plan.trees ∷ []) ≤ times q more
  more_than q = one_of more v.plan.trees q pool_in

  once : (q : ℕ) → times q (planned_rows others) + times q (numbers rows') + times q (here ∷ []) ≤ 1
  once q =
      let a = all_once v tree whole here rows hangs more l closed lt q in
      let b = others_times q in
      let p = parts q in
      let m = more_than q in
      omega arith

  pub join_laid : LaysRows v plan l.place here rows' hangs'
  join_laid = laid_rows v tree whole here rows hangs more l lt interval stays loaded others plan rows' hangs' plans once

  pub join_keeps : l.place ≡ below_top → mode_of stays.words ≡ mode_before v [] tree → mode_after v plan tree ≡ mode_before v plan tree
  join_keeps at mode =
      subst (λ (n : ℕ). mode_after v plan n ≡ mode_before v plan tree)
      (subst (λ (p : Place). TopIs p tree here l.top) at l.top_is).0
      (anchor_gets v tree whole here rows hangs more l lt interval stays loaded others plan rows' hangs' plans once at ∙ mode)

  -- what the rows that go and the pool's anchor hold behind the plan
  holds_others : (p : RowImage) → InPlan p others → shown_after v plan p.row ≡ node_of p.words
  holds_others p h =
      ap node_of (planned_image v tree whole here rows hangs more l lt interval stays loaded others plan rows' hangs' plans once p
      (other_planned v tree whole here rows hangs more l lt interval stays loaded others plan rows' hangs' plans once p h))

  gone_held : (q : ℕ) → 0 < times q (numbers (reverse gone)) → IsIn (has v) q
  gone_held q some =
      sub_held v tree whole here rows hangs more l closed lt q
      (let e = ap (times q) (numbers_are v tree whole here rows hangs more l closed lt) in let p = parts q in let g = times_reversed gone q in omega arith)

  pub join_pool : PoolPlan (IsIn (has v)) (planned_rows plan) v.plan.trees (shown v plan) (shown_after v plan) [] (numbers (reverse gone))
  join_pool = from_pool has_pool (λ q some. absurd (omega arith)) gone_held
      record {
        rest = slice_index pool.words 17;
        takes = ap (λ (ws : List ℕ). (node_of ws).left) (loaded_at v tree whole here rows hangs more l lt interval v.plan.trees pool has_pool pool_loaded)
            ∙ is_left pool.words;
        gives = subst (λ (n : ℕ). IsRun (shown_after v plan) n (numbers (reverse gone)) (slice_index pool.words 17))
            (sym (ap (λ (n : ℕ). (shown_after v plan n).left) (sym pool_loaded.row)
            ∙ (ap (λ (n : Node). n.left) (holds_others (given_to pool link) (in_right (given_to pool link) chained (given_to pool link ∷ []) (inl refl)))
            ∙ link_left pool.words link pool_loaded.long)))
            (chained_run (shown_after v plan) chained link (reverse gone) (slice_index pool.words 17)
            (λ p h. holds_others p (in_left p chained (given_to pool link ∷ []) h)) chains);
      }

  pub join_times : (q : ℕ) → times q (planned_rows plan) ≡ times q (numbers rows) + times q (v.plan.trees ∷ []) + times q (here ∷ [])
  join_times q =
      let a = plan_times v tree whole here rows hangs more l lt interval stays loaded others plan rows' hangs' plans once q in
      let b = others_times q in
      let p = parts q in
      omega arith

  pub join_only : PlansOnly (here ∷ v.plan.trees ∷ numbers rows) (planned_rows plan)
  join_only q none = let t = join_times q in omega arith

pub join_plan_commits : JoinPlanCommits
join_plan_commits v tree here rows rows' gone more stays pool chained plan link e change l closed lt at mode join parted pool_in loaded pool_loaded chains
    plans pass is counts =
    let all : length (numbers (reverse gone)) ≡ length gone = length-numbers (reverse gone) ∙ length-reverse gone in
    join_commits v tree here rows rows' more (numbers (reverse gone)) plan e change l closed lt at join
    (join_laid v tree here rows rows' gone more l closed lt parted pool pool_in pool_loaded chained link chains stays loaded plan plans)
    (join_keeps v tree here rows rows' gone more l closed lt parted pool pool_in pool_loaded chained link chains stays loaded plan plans at mode)
    record {
      each = λ q. ap (λ (n : ℕ). times q (numbers rows') + n) (times_reversed gone q) ∙ parted.each q;
      all = ap (λ (n : ℕ). length rows' + n) (all ∙ sym (length-numbers gone)) ∙ parted.all;
    }
    (join_pool v tree here rows rows' gone more l closed lt parted pool pool_in pool_loaded chained link chains stays loaded plan plans)
    (join_only v tree here rows rows' gone more l closed lt parted pool pool_in pool_loaded chained link chains stays loaded plan plans)
    pass is (subst (λ (n : ℕ). change +ℤ pos n ≡ pos 0) (sym all) counts)
