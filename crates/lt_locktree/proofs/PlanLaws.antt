-- The plans of granted asks meet what a commit asks.
use Rattle.std.proofs.Common.{◌≡◌, ◌≢◌, ℕ, ◌+◌, ◌<◌, ◌≤◌, inl, inr, List, [], ◌∷◌, ◌++◌, length, take, drop, refl, sym, ap, ◌∙◌, subst, arith, eq-eqb, ne_eqb}
use Rattle.std.specs.Prelude.{nat_eq, pos, slice_index}
use Rattle.std.proofs.lemmas.List.{take-append-drop}
use mathlib.Core.Logic.{dite}
use native.Mathlib.Decide.{ℕ_discrete}
use Rattle.lt_ranges.specs.Interval.{Interval, IsInterval}
use Rattle.lt_seq.specs.Pairs.{is_own}
use Rattle.lt_forest.specs.declared.part.PartRow.{PartRow}
use Rattle.lt_forest.specs.Counts.{one_if, times}
use Rattle.lt_forest.specs.Trees.{in_order}
use Rattle.lt_forest.specs.Cuts.{bare}
use Rattle.lt_forest.specs.Parts.{numbers}
use Rattle.lt_forest.specs.Views.{IsIn, PlansOnly, PoolPlan, no_pool, from_pool}
use Rattle.lt_forest.proofs.SameRows.{times-++}
use Rattle.lt_forest.proofs.PublicLaws.{read_pool_is_further}
use Rattle.lt_rows.specs.declared.view.View.{View}
use Rattle.lt_rows.specs.declared.image.RowImage.{RowImage}
use Rattle.lt_rows.specs.Nodes.{node_of, nodes, modes}
use Rattle.lt_rows.specs.Views.{has, planned_rows}
use Rattle.lt_rows.specs.Views.{rows_of as all_rows}
use Rattle.lt_rows.specs.Lawful.{shown, shown_after}
use Rattle.lt_rows.proofs.Planned.{view_is}
use Rattle.lt_rows.proofs.ThreeRows.{is_left, link_left}
use Rattle.lt_tree.specs.Gathers.{Place, below_top, on_left, on_right, around, TopIs, IsLockedWith, IsClosed}
use Rattle.lt_tree.proofs.ReleaseLaws.{locked_backs}
use Rattle.lt_locktree.specs.LawsOfGrants.{merged_row, new_row}
use Rattle.lt_locktree.specs.LawsOfPlans.{taken_from, GrownPlanCommits, PutInPlanCommits}
use Rattle.lt_locktree.specs.PlannedParts.{PlansRows, IsLoaded}
use Rattle.lt_locktree.specs.Relaid.{LaysPart}
use Rattle.lt_locktree.proofs.HeldParts.{row_further}
use Rattle.lt_locktree.proofs.GrantedRuns.{numbers_are, merged_ask_commits, put_in_ask_commits}
use Rattle.lt_locktree.proofs.LaidParts.{loaded_at, plan_times, planned_image, other_planned, laid_part, seen_loaded}

none_of : (xs : List ℕ) (q : ℕ) → (0 < times q xs → ⊥) → times q xs ≡ 0
none_of xs q f = dite (ℕ_discrete (times q xs) 0) (λ e. e) (λ ne. absurd (f (omega arith)))

-- one row in another's place
pub numbers_same : (xs : List PartRow) (a b : PartRow) (ys : List PartRow) → a.row ≡ b.row → numbers (xs ++ a ∷ ys) ≡ numbers (xs ++ b ∷ ys)
numbers_same [] a b ys e = ap (λ (n : ℕ). n ∷ numbers ys) e
numbers_same (x ∷ xs) a b ys e = ap (λ (ns : List ℕ). x.row ∷ ns) (numbers_same xs a b ys e)

-- and one more row
pub numbers_more : (xs : List PartRow) (a : PartRow) (ys : List PartRow) (q : ℕ)
    → times q (numbers (xs ++ a ∷ ys)) ≡ times q (numbers (xs ++ ys)) + times q (a.row ∷ [])
numbers_more [] a ys q = omega arith
numbers_more (x ∷ xs) a ys q = let e = numbers_more xs a ys q in omega arith

module _ (v : View) (tree : ℕ) (asked : Interval) (here : ℕ) (rows : List PartRow) (hangs more : List ℕ)
    (l : IsLockedWith v tree asked here rows hangs more) (closed : IsClosed asked rows hangs) (lt : tree < v.plan.trees) where
  -- no row of the part, nor the row that stays, is the pool's anchor
  pub here_apart : times v.plan.trees (here ∷ []) ≡ 0
  here_apart = by l.place l.top_is refl
    where
      far : (p : Place) → l.place ≡ p → 0 < times here (in_order (bare (around p here (shown v [] here) l.sub))) → v.plan.trees < here
      far p e some =
          (row_further v tree asked here rows hangs more l lt here
          (subst (λ (x : Place). 0 < times here (in_order (bare (around x here (shown v [] here) l.sub)))) (sym e) some)).0

      apart : here ≢ v.plan.trees → times v.plan.trees (here ∷ []) ≡ 0
      apart ne = let z : one_if (nat_eq here v.plan.trees) ≡ 0 = ap one_if (ne_eqb here v.plan.trees ne) in omega arith

      one : one_if (nat_eq here here) ≡ 1
      one = ap one_if (eq-eqb here here refl)

      by : (p : Place) → TopIs p tree here l.top → l.place ≡ p → times v.plan.trees (here ∷ []) ≡ 0
      by below_top is e = apart (λ x. let same = is.0 in omega arith)
      by on_left is e =
          apart (λ x. (let f = far on_left e (let s = times-++ here (in_order (bare l.sub)) (here ∷ []) in let o = one in omega arith) in omega arith))
      by on_right is e = apart (λ x. (let f = far on_right e (let o = one in omega arith) in omega arith))

  pub rows_apart : times v.plan.trees (numbers rows) ≡ 0
  rows_apart =
      none_of (numbers rows) v.plan.trees
      (λ some. (let f = (row_further v tree asked here rows hangs more l lt v.plan.trees
      (in_whole l.place (subst (λ (ns : List ℕ). 0 < times v.plan.trees ns) (sym (numbers_are v tree asked here rows hangs more l closed lt)) some))).0 in
      omega arith))
    where
      in_whole : (p : Place) → 0 < times v.plan.trees (in_order (bare l.sub)) → 0 < times v.plan.trees (in_order (bare (around p here (shown v [] here) l.sub)))
      in_whole below_top some = some
      in_whole on_left some = let s = times-++ v.plan.trees (in_order (bare l.sub)) (here ∷ []) in omega arith
      in_whole on_right some = omega arith

  -- each row that is held is named once
  pub all_once : (q : ℕ) → times q more + times q (here ∷ []) + times q (numbers rows) ≤ 1
  all_once q =
      let b = (locked_backs v tree asked here rows hangs l lt).keeps.once q in
      let s = times-++ q more (here ∷ numbers rows) in
      omega arith

no_more : (n : ℕ) → n + 0 ≡ n
no_more n = omega arith

once_grown : (v : View) (tree : ℕ) (asked : Interval) (here : ℕ) (rows : List PartRow) (hangs more : List ℕ)
    (l : IsLockedWith v tree asked here rows hangs more) → IsClosed asked rows hangs → tree < v.plan.trees
    → (new_rows : List PartRow) → numbers new_rows ≡ numbers rows → (q : ℕ) → times q [] + times q (numbers new_rows) + times q (here ∷ []) ≤ 1
once_grown v tree asked here rows hangs more l closed lt new_rows same q =
    let a = all_once v tree asked here rows hangs more l closed lt q in let s = ap (times q) same in omega arith

pub grown_plan_commits : GrownPlanCommits
grown_plan_commits v tree asked here ahead r behind hangs more stays plan e l closed lt interval between own loaded plans pass is =
    let rows : List PartRow = ahead ++ r ∷ behind in
    let new_rows : List PartRow = ahead ++ merged_row e.txn asked r [] ∷ behind in
    let same : numbers new_rows ≡ numbers rows = numbers_same ahead (merged_row e.txn asked r []) r behind refl in
    let hangs_is : take (length ahead + 1) hangs ++ drop (length ahead + 1 + 0) hangs ≡ hangs =
    (λ j. take (length ahead + 1) hangs ++ drop (no_more (length ahead + 1) j) hangs) ∙ take-append-drop (length ahead + 1) hangs in
    let once = λ (q : ℕ). once_grown v tree asked here rows hangs more l closed lt new_rows same q in
    let laid = laid_part v tree asked here rows hangs more l lt interval stays loaded [] plan new_rows hangs plans once in
    let counts = plan_times v tree asked here rows hangs more l lt interval stays
    (seen_loaded v tree asked here rows hangs more l lt interval stays loaded) [] plan new_rows hangs plans once in
    merged_ask_commits v tree asked here ahead r [] behind hangs more [] plan e (pos 0) l closed lt interval between
    (λ p h. elim h [ inl x ↦ ap (is_own e.txn asked) x ∙ own | inr z ↦ absurd z ])
    (subst (λ (hs : List ℕ). LaysPart v plan l.place here new_rows hs) (sym hangs_is) laid)
    (record { each = λ q. refl; all = refl })
    (no_pool refl refl
    (let a = counts v.plan.trees in let b = rows_apart v tree asked here rows hangs more l closed lt in
    let d = here_apart v tree asked here rows hangs more l closed lt in let s = ap (times v.plan.trees) same in omega arith))
    (λ q none. let a = counts q in let s = ap (times q) same in omega arith)
    pass is refl

-- two rows that are held besides
two_of : (more : List ℕ) (a b : ℕ) → a ≢ b → 0 < times a more → 0 < times b more → (q : ℕ) → times q (a ∷ b ∷ []) ≤ times q more
two_of more a b ne ha hb q = dite (ℕ_discrete a q)
    (λ e. let ha' : 0 < times q more = subst (λ (n : ℕ). 0 < times n more) e ha in
    let x : one_if (nat_eq a q) ≡ 1 = ap one_if (eq-eqb a q e) in
    let y : one_if (nat_eq b q) ≡ 0 = ap one_if (ne_eqb b q (λ f. ne (e ∙ sym f))) in omega arith)
    (λ na. let x : one_if (nat_eq a q) ≡ 0 = ap one_if (ne_eqb a q na) in
    dite (ℕ_discrete b q)
    (λ f. let hb' : 0 < times q more = subst (λ (n : ℕ). 0 < times n more) f hb in
    let y : one_if (nat_eq b q) ≡ 1 = ap one_if (eq-eqb b q f) in omega arith)
    (λ nb. let y : one_if (nat_eq b q) ≡ 0 = ap one_if (ne_eqb b q nb) in omega arith))

module _ (v : View) (tree : ℕ) (asked : Interval) (here : ℕ) (rows : List PartRow) (hangs more : List ℕ)
    (l : IsLockedWith v tree asked here rows hangs more) (closed : IsClosed asked rows hangs) (lt : tree < v.plan.trees)
    (interval : IsInterval asked) (pool vacant : RowImage) (pool_in : 0 < times v.plan.trees more) (vacant_in : 0 < times vacant.row more)
    (first : slice_index pool.words 17 ≡ vacant.row + 1) (pool_loaded : IsLoaded v v.plan.trees pool)
    (vacant_loaded : IsLoaded v vacant.row vacant) where
  has_pool : IsIn (has v) v.plan.trees
  has_pool = l.held_more.held v.plan.trees pool_in

  has_vacant : IsIn (has v) vacant.row
  has_vacant = l.held_more.held vacant.row vacant_in

  -- the pool's anchor leads to the vacant row
  first_link : (shown v [] v.plan.trees).left ≡ vacant.row + 1
  first_link =
      ap (λ (ws : List ℕ). (node_of ws).left) (loaded_at v tree asked here rows hangs more l lt interval v.plan.trees pool has_pool pool_loaded)
      ∙ (is_left pool.words ∙ first)

  next_link : (shown v [] vacant.row).left ≡ slice_index vacant.words 17
  next_link =
      ap (λ (ws : List ℕ). (node_of ws).left) (loaded_at v tree asked here rows hangs more l lt interval vacant.row vacant has_vacant vacant_loaded)
      ∙ is_left vacant.words

  vacant_further : v.plan.trees < vacant.row
  vacant_further =
      let st = l.teaches.2 in
      (read_pool_is_further (has v) (shown v []) v.plan.trees (all_rows v.plan) (nodes st.contents) (modes st.contents) _ st.forest
      (slice_index vacant.words 17) vacant.row (vacant.row ∷ []) st.shape.forest (view_is v [] st.contents st.agrees).before
      (λ q some. dite (ℕ_discrete v.plan.trees q) (λ e. subst (IsIn (has v)) e has_pool)
      (λ ne. let z : one_if (nat_eq v.plan.trees q) ≡ 0 = ap one_if (ne_eqb v.plan.trees q ne) in
      dite (ℕ_discrete vacant.row q) (λ e. subst (IsIn (has v)) e has_vacant)
      (λ nv. let y : one_if (nat_eq vacant.row q) ≡ 0 = ap one_if (ne_eqb vacant.row q nv) in absurd (omega arith))))
      (first_link, next_link)
      (let o : one_if (nat_eq vacant.row vacant.row) ≡ 1 = ap one_if (eq-eqb vacant.row vacant.row refl) in omega arith)).0

  module _ (stays : RowImage) (loaded : IsLoaded v here stays) (plan : List RowImage) (new_rows : List PartRow) (new_hangs : List ℕ)
      (plans : PlansRows tree asked stays (taken_from pool vacant ∷ []) plan new_rows new_hangs)
      (counts : (q : ℕ) → times q (numbers new_rows) ≡ times q (numbers rows) + times q (vacant.row ∷ [])) where
    once_put : (q : ℕ) → times q (planned_rows (taken_from pool vacant ∷ [])) + times q (numbers new_rows) + times q (here ∷ []) ≤ 1
    once_put q =
        let a = all_once v tree asked here rows hangs more l closed lt q in
        let b = two_of more v.plan.trees vacant.row (λ e. let f = vacant_further in omega arith) pool_in vacant_in q in
        let d = counts q in
        let p : times q (pool.row ∷ []) ≡ times q (v.plan.trees ∷ []) = ap (λ (n : ℕ). times q (n ∷ [])) pool_loaded.row in
        omega arith

    put_laid : LaysPart v plan l.place here new_rows new_hangs
    put_laid = laid_part v tree asked here rows hangs more l lt interval stays loaded (taken_from pool vacant ∷ []) plan new_rows new_hangs plans once_put

    put_pool : PoolPlan (IsIn (has v)) (planned_rows plan) v.plan.trees (shown v plan) (shown_after v plan) (vacant.row ∷ []) []
    put_pool = from_pool has_pool
        (λ q some. dite (ℕ_discrete vacant.row q) (λ e. subst (IsIn (has v)) e has_vacant)
        (λ nv. let y : one_if (nat_eq vacant.row q) ≡ 0 = ap one_if (ne_eqb vacant.row q nv) in absurd (omega arith)))
        (λ q some. absurd (omega arith))
        record {
          rest = slice_index vacant.words 17;
          takes = (first_link, next_link);
          gives = ap (λ (n : ℕ). (shown_after v plan n).left) (sym pool_loaded.row)
              ∙ (ap (λ (ws : List ℕ). (node_of ws).left)
              (planned_image v tree asked here rows hangs more l lt interval stays
              (seen_loaded v tree asked here rows hangs more l lt interval stays loaded) (taken_from pool vacant ∷ []) plan new_rows new_hangs plans once_put
              (taken_from pool vacant)
              (other_planned v tree asked here rows hangs more l lt interval stays
              (seen_loaded v tree asked here rows hangs more l lt interval stays loaded) (taken_from pool vacant ∷ []) plan new_rows new_hangs plans once_put
              (taken_from pool vacant) (inl refl)))
              ∙ link_left pool.words (slice_index vacant.words 17) pool_loaded.long);
        }

    pub put_only : PlansOnly (here ∷ v.plan.trees ∷ vacant.row ∷ numbers rows) (planned_rows plan)
    put_only q none =
        let a = plan_times v tree asked here rows hangs more l lt interval stays
        (seen_loaded v tree asked here rows hangs more l lt interval stays loaded) (taken_from pool vacant ∷ []) plan new_rows new_hangs plans once_put q in
        let d = counts q in
        let p : times q (pool.row ∷ []) ≡ times q (v.plan.trees ∷ []) = ap (λ (n : ℕ). times q (n ∷ [])) pool_loaded.row in
        omega arith

pub put_in_plan_commits : PutInPlanCommits
put_in_plan_commits v tree asked here ahead behind hangs more stays pool vacant plan e l closed lt interval between no_buffer licensed pool_in vacant_in
    first loaded pool_loaded vacant_loaded plans pass is =
    let rows : List PartRow = ahead ++ behind in
    let new_rows : List PartRow = ahead ++ new_row e.txn asked vacant.row ∷ behind in
    let new_hangs : List ℕ = take (length ahead) hangs ++ 0 ∷ 0 ∷ drop (length ahead + 1) hangs in
    let counts = λ (q : ℕ). numbers_more ahead (new_row e.txn asked vacant.row) behind q in
    put_in_ask_commits v tree asked here ahead behind hangs more vacant.row plan e l closed lt interval between no_buffer licensed
    (put_laid v tree asked here rows hangs more l closed lt interval pool vacant pool_in vacant_in first pool_loaded vacant_loaded stays loaded plan
    new_rows new_hangs plans counts)
    (put_pool v tree asked here rows hangs more l closed lt interval pool vacant pool_in vacant_in first pool_loaded vacant_loaded stays loaded plan
    new_rows new_hangs plans counts)
    (put_only v tree asked here rows hangs more l closed lt interval pool vacant pool_in vacant_in first pool_loaded vacant_loaded stays loaded plan
    new_rows new_hangs plans counts)
    pass is
