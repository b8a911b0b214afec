-- The plan of an ask for which several rows become one meets what a commit asks.
use Rattle.std.proofs.Common.{◌≡◌, ℕ, ◌+◌, ◌<◌, ◌≤◌, inl, List, [], ◌∷◌, ◌++◌, length, take, drop, refl, sym, ap, ◌∙◌, subst, arith, eq-eqb, ne_eqb}
use Rattle.std.specs.Prelude.{nat_eq, reverse, slice_index}
use Rattle.std.proofs.lemmas.List.{reverse-append, length-reverse}
use mathlib.Core.Logic.{dite}
use native.Mathlib.Decide.{ℕ_discrete}
use Rattle.lt_ranges.specs.Interval.{Interval, IsInterval}
use Rattle.lt_forest.specs.declared.part.PartRow.{PartRow}
use Rattle.lt_forest.specs.Counts.{one_if, times}
use Rattle.lt_forest.specs.Forest.{IsRun}
use Rattle.lt_forest.specs.Trees.{Nodes, Node}
use Rattle.lt_forest.specs.Parts.{numbers}
use Rattle.lt_forest.specs.Views.{IsIn, PlansOnly, PoolPlan, from_pool}
use Rattle.lt_forest.proofs.PairLists.{map_app}
use Rattle.lt_forest.proofs.SameRows.{times-++}
use Rattle.lt_rows.specs.declared.view.View.{View}
use Rattle.lt_rows.specs.declared.image.RowImage.{RowImage}
use Rattle.lt_rows.specs.Nodes.{node_of}
use Rattle.lt_rows.specs.Views.{has, planned_rows}
use Rattle.lt_rows.specs.Lawful.{shown, shown_after}
use Rattle.lt_rows.proofs.ThreeRows.{is_left, link_left}
use Rattle.lt_tree.specs.Gathers.{IsLockedWith, IsClosed}
use Rattle.lt_locktree.specs.LawsOfFrees.{AreNumbersOf}
use Rattle.lt_locktree.specs.LawsOfGrants.{merged_row}
use Rattle.lt_locktree.specs.LawsOfPlans.{MergedPlanCommits}
use Rattle.lt_locktree.specs.PlannedParts.{InPlan, PlansRows, IsLoaded}
use Rattle.lt_locktree.specs.Given.{IsChained, given_to}
use Rattle.lt_locktree.specs.Relaid.{LaysPart}
use Rattle.lt_locktree.proofs.GrantedRuns.{numbers_are, sub_held, length-numbers, merged_ask_commits}
use Rattle.lt_locktree.proofs.DrawnParts.{planned_app}
use Rattle.lt_locktree.proofs.PlannedRows.{in_left, in_right}
use Rattle.lt_locktree.proofs.LaidParts.{loaded_at, plan_times, planned_image, other_planned, laid_part, seen_loaded}
use Rattle.lt_locktree.proofs.PlanLaws.{all_once}

-- images that are chained have the rows, and where they count the links lead along these
pub chained_times : (images : List RowImage) (link : ℕ) (rows : List PartRow) (last q : ℕ) → IsChained images link rows last
    → times q (planned_rows images) ≡ times q (numbers rows)
chained_times images link [] last q is = ap (λ (xs : List RowImage). times q (planned_rows xs)) is.0
chained_times images link (r ∷ rows) last q (front, image, images_are, row_is, link_is, rest) =
    let t = chained_times front (node_of image.words).left rows last q rest in
    let a = ap (λ (xs : List RowImage). times q (planned_rows xs)) images_are in
    let b = ap (times q) (planned_app front (image ∷ [])) ∙ times-++ q (planned_rows front) (image.row ∷ []) in
    let d : times q (image.row ∷ []) ≡ times q (r.row ∷ []) = ap (λ (n : ℕ). times q (n ∷ [])) row_is in
    omega arith

pub chained_run : (d : Nodes) (images : List RowImage) (link : ℕ) (rows : List PartRow) (last : ℕ)
    → ((p : RowImage) → InPlan p images → d p.row ≡ node_of p.words) → IsChained images link rows last
    → IsRun d link (numbers rows) last
chained_run d images link [] last holds is = is.1
chained_run d images link (r ∷ rows) last holds (front, image, images_are, row_is, link_is, rest) =
    let all : (p : RowImage) → InPlan p (front ++ image ∷ []) → d p.row ≡ node_of p.words =
    λ p h. holds p (subst (λ (l : List RowImage). InPlan p l) (sym images_are) h) in
    let at : (d r.row).left ≡ (node_of image.words).left =
    ap (λ (n : ℕ). (d n).left) (sym row_is) ∙ ap (λ (n : Node). n.left) (all image (in_right image front (image ∷ []) (inl refl))) in (
      link_is,
      subst (λ (n : ℕ). IsRun d n (numbers rows) last) (sym at)
          (chained_run d front (node_of image.words).left rows last (λ p h. all p (in_left p front (image ∷ []) h)) rest),
    )

-- the numbers of rows in the other order
pub times_reversed : (rows : List PartRow) (q : ℕ) → times q (numbers (reverse rows)) ≡ times q (numbers rows)
times_reversed [] q = refl
times_reversed (r ∷ rows) q =
    ap (λ (rs : List PartRow). times q (numbers rs)) (reverse-append (r ∷ []) rows)
    ∙ (ap (times q) (map_app (λ (x : PartRow). x.row) (reverse rows) (r ∷ []))
    ∙ (times-++ q (numbers (reverse rows)) (r.row ∷ [])
    ∙ (let e = times_reversed rows q in omega arith)))

pub are_reversed : (rows : List PartRow) → AreNumbersOf rows (numbers (reverse rows))
are_reversed rows = record { each = times_reversed rows; all = length-numbers (reverse rows) ∙ length-reverse rows }

-- the rows of a run but its first go
pub numbers_merged : (xs : List PartRow) (a b : PartRow) (run ys : List PartRow) (q : ℕ) → a.row ≡ b.row
    → times q (numbers (xs ++ (b ∷ run ++ ys))) ≡ times q (numbers (xs ++ a ∷ ys)) + times q (numbers run)
numbers_merged [] a b run ys q e =
    let s = ap (times q) (map_app (λ (r : PartRow). r.row) run ys) ∙ times-++ q (numbers run) (numbers ys) in
    let f : times q (a.row ∷ []) ≡ times q (b.row ∷ []) = ap (λ (n : ℕ). times q (n ∷ [])) e in
    omega arith
numbers_merged (x ∷ xs) a b run ys q e = let t = numbers_merged xs a b run ys q e in omega arith

pub one_of : (more : List ℕ) (a q : ℕ) → 0 < times a more → times q (a ∷ []) ≤ times q more
one_of more a q h = dite (ℕ_discrete a q)
    (λ e. let h' : 0 < times q more = subst (λ (n : ℕ). 0 < times n more) e h in
    let x : one_if (nat_eq a q) ≡ 1 = ap one_if (eq-eqb a q e) in omega arith)
    (λ ne. let x : one_if (nat_eq a q) ≡ 0 = ap one_if (ne_eqb a q ne) in omega arith)

module _ (v : View) (tree : ℕ) (asked : Interval) (here : ℕ) (rows : List PartRow) (hangs more : List ℕ)
    (l : IsLockedWith v tree asked here rows hangs more) (closed : IsClosed asked rows hangs) (lt : tree < v.plan.trees)
    (interval : IsInterval asked) (stays pool : RowImage) (given : List RowImage) (link : ℕ) (run : List PartRow)
    (pool_in : 0 < times v.plan.trees more) (loaded : IsLoaded v here stays) (pool_loaded : IsLoaded v v.plan.trees pool)
    (chained : IsChained given link (reverse run) (slice_index pool.words 17)) (plan : List RowImage) (new_rows : List PartRow) (new_hangs : List ℕ)
    (plans : PlansRows tree asked stays (given ++ given_to pool link ∷ []) plan new_rows new_hangs)
    (counts : (q : ℕ) → times q (numbers rows) ≡ times q (numbers new_rows) + times q (numbers run)) where
  abbrev others : List RowImage
  others = given ++ given_to pool link ∷ []

  others_times : (q : ℕ) → times q (planned_rows others) ≡ times q (numbers run) + times q (v.plan.trees ∷ [])
  others_times q =
      ap (times q) (planned_app given (given_to pool link ∷ []))
      ∙ (times-++ q (planned_rows given) (pool.row ∷ [])
      ∙ (λ j. (chained_times given link (reverse run) (slice_index pool.words 17) q chained ∙ times_reversed run q) j
      + times q (pool_loaded.row j ∷ [])))

  has_pool : IsIn (has v) v.plan.trees
  has_pool = l.held_more.held v.plan.trees pool_in

  once_merged : (q : ℕ) → times q (planned_rows others) + times q (numbers new_rows) + times q (here ∷ []) ≤ 1
  once_merged q =
      let a = all_once v tree asked here rows hangs more l closed lt q in
      let b = one_of more v.plan.trees q pool_in in
      let d = counts q in
      let e = others_times q in
      omega arith

  merged_laid : LaysPart v plan l.place here new_rows new_hangs
  merged_laid = laid_part v tree asked here rows hangs more l lt interval stays loaded others plan new_rows new_hangs plans once_merged

  image_counts : (p : RowImage) → InPlan p others → shown_after v plan p.row ≡ node_of p.words
  image_counts p h =
      ap node_of
      (planned_image v tree asked here rows hangs more l lt interval stays
      (seen_loaded v tree asked here rows hangs more l lt interval stays loaded) others plan new_rows new_hangs plans once_merged p
      (other_planned v tree asked here rows hangs more l lt interval stays
      (seen_loaded v tree asked here rows hangs more l lt interval stays loaded) others plan new_rows new_hangs plans once_merged p h))

  pool_link : (shown_after v plan v.plan.trees).left ≡ link
  pool_link =
      ap (λ (n : ℕ). (shown_after v plan n).left) (sym pool_loaded.row)
      ∙ (ap (λ (n : Node). n.left) (image_counts (given_to pool link) (in_right (given_to pool link) given (given_to pool link ∷ []) (inl refl)))
      ∙ link_left pool.words link pool_loaded.long)

  merged_pool : PoolPlan (IsIn (has v)) (planned_rows plan) v.plan.trees (shown v plan) (shown_after v plan) [] (numbers (reverse run))
  merged_pool = from_pool has_pool
      (λ q some. absurd (omega arith))
      (λ q some. sub_held v tree asked here rows hangs more l closed lt q
      (let a = counts q in let n = ap (times q) (numbers_are v tree asked here rows hangs more l closed lt) in
      let g = times_reversed run q in omega arith))
      record {
        rest = slice_index pool.words 17;
        takes = ap (λ (ws : List ℕ). (node_of ws).left)
            (loaded_at v tree asked here rows hangs more l lt interval v.plan.trees pool has_pool pool_loaded)
            ∙ is_left pool.words;
        gives = subst (λ (n : ℕ). IsRun (shown_after v plan) n (numbers (reverse run)) (slice_index pool.words 17)) (sym pool_link)
            (chained_run (shown_after v plan) given link (reverse run) (slice_index pool.words 17)
            (λ p h. image_counts p (in_left p given (given_to pool link ∷ []) h)) chained);
      }

  pub merged_times : (q : ℕ) → times q (planned_rows plan) ≡ times q (numbers rows) + times q (v.plan.trees ∷ []) + times q (here ∷ [])
  merged_times q =
      let a = plan_times v tree asked here rows hangs more l lt interval stays
      (seen_loaded v tree asked here rows hangs more l lt interval stays loaded) others plan new_rows new_hangs plans once_merged q in
      let d = counts q in
      let e = others_times q in
      omega arith

  merged_only : PlansOnly (here ∷ v.plan.trees ∷ numbers rows) (planned_rows plan)
  merged_only q none = let t = merged_times q in omega arith

pub merged_plan_commits : MergedPlanCommits
merged_plan_commits v tree asked here ahead r run behind hangs more stays pool given link plan e change l closed lt interval between own pool_in loaded
    pool_loaded chained plans pass is gone =
    let rows : List PartRow = ahead ++ (r ∷ run ++ behind) in
    let one : PartRow = merged_row e.txn asked r run in
    let new_rows : List PartRow = ahead ++ one ∷ behind in
    let new_hangs : List ℕ = take (length ahead + 1) hangs ++ drop (length ahead + 1 + length run) hangs in
    let counts = λ (q : ℕ). numbers_merged ahead one r run behind q refl in
    merged_ask_commits v tree asked here ahead r run behind hangs more (numbers (reverse run)) plan e change l closed lt interval between own
    (merged_laid v tree asked here rows hangs more l closed lt interval stays pool given link run pool_in loaded pool_loaded chained plan new_rows
    new_hangs plans counts)
    (are_reversed run)
    (merged_pool v tree asked here rows hangs more l closed lt interval stays pool given link run pool_in loaded pool_loaded chained plan new_rows
    new_hangs plans counts)
    (merged_only v tree asked here rows hangs more l closed lt interval stays pool given link run pool_in loaded pool_loaded chained plan new_rows
    new_hangs plans counts)
    pass is gone
