-- An ask for which a row of the pool is put in, as a function asks for it.
use Rattle.std.proofs.Common.{◌≡◌, ℕ, ◌+◌, ◌<◌, ◌≤◌, true, List, [], ◌∷◌, ◌++◌, length, map, take, drop, refl, sym, ap, ◌∙◌, subst, arith, eq-eqb, ne_eqb}
use Rattle.std.specs.Prelude.{pos, nat_eq, slice_index}
use Rattle.std.specs.Prelude.{Option}
use Rattle.std.proofs.lemmas.List.{take-append-drop, length-take-le}
use mathlib.Core.Logic.{dite}
use native.Mathlib.Decide.{ℕ_discrete}
use Rattle.lt_ranges.specs.Interval.{Interval, IsInterval}
use Rattle.lt_seq.specs.declared.event.Deed.TheVariants.{Ask}
use Rattle.lt_seq.specs.declared.event.Mode.TheVariants.{Tree as TreeMode}
use Rattle.lt_seq.specs.declared.event.Reply.TheVariants.{Granted}
use Rattle.lt_rows.specs.declared.row_plan.RowPlan.{RowPlan}
use Rattle.lt_seq.specs.Table.{is_buffered}
use Rattle.lt_forest.specs.declared.part.PartRow.{PartRow}
use Rattle.lt_forest.specs.Counts.{one_if, times}
use Rattle.lt_forest.specs.Parts.{row_pair, numbers}
use Rattle.lt_forest.specs.Views.{IsIn}
use Rattle.lt_rows.specs.declared.image.RowImage.{RowImage}
use Rattle.lt_rows.specs.declared.pass.RowPass.{RowPass}
use Rattle.lt_rows.specs.declared.view.Row.{Row}
use Rattle.lt_rows.specs.declared.view.View.{View}
use Rattle.lt_rows.specs.Handles.{knows}
use Rattle.lt_rows.specs.Lawful.{IsCommit}
use Rattle.lt_rows.specs.Nodes.{node_of, mode_of}
use Rattle.lt_rows.specs.Views.{has, AllHeld, IsHeld, image_of, row_at, planned_rows}
use Rattle.lt_rows.proofs.Planned.{held_row}
use Rattle.lt_rows.proofs.ThreeRows.{is_left}
use Rattle.lt_tree.specs.Gathers.{IsLockedWith, IsClosed}
use Rattle.lt_tree.specs.Pools.{HoldsFirst}
use Rattle.lt_tree.specs.States.{KeepsRows, OnlyRows}
use Rattle.lt_locktree.specs.declared.asking.Asking.{Asking}
use Rattle.lt_locktree.specs.LawsOfGrants.{StandsBetween, NoBufferBegins, new_row}
use Rattle.lt_locktree.specs.LawsOfPlans.{taken_from}
use Rattle.lt_locktree.specs.Makes.{IsOf}
use Rattle.lt_locktree.specs.PlannedParts.{PlansRows, IsLoaded}
use Rattle.lt_locktree.proofs.GrantedRuns.{numbers_are}
use Rattle.lt_locktree.proofs.GrownServed.{all_held}
use Rattle.lt_locktree.proofs.LaidParts.{loaded_at}
use Rattle.lt_locktree.proofs.PlanLaws.{numbers_more, put_only, put_in_plan_commits}

-- where the row that stays is as before no buffer begins either
pub buffer_kept : (v w : View) (tree here txn : ℕ) (rows : List PartRow) → IsHeld v here → KeepsRows v w → OnlyRows v w
    → NoBufferBegins v tree here txn rows → NoBufferBegins w tree here txn rows
buffer_kept v w tree here txn rows held keeps only none is score mode =
    let same : row_at w tree ≡ row_at v tree = subst (λ (q : ℕ). row_at w q ≡ row_at v q) is (keeps here held) in
    ap (λ (u : View). is_buffered u.plan.buffer txn (map row_pair rows) (TreeMode score)) only.0
    ∙ none is score (sym (ap (λ (x : Option Row). mode_of (image_of x)) same) ∙ mode)

module _ (pass : RowPass) (k : RowPlan) (tree : ℕ) (asked : Interval) (here : ℕ) (rows : List PartRow) (hangs : List ℕ) (row : ℕ)
    (l : IsLockedWith (knows pass) tree asked here rows hangs (row ∷ (knows pass).plan.trees ∷ [])) (closed : IsClosed asked rows hangs)
    (plan_is : (knows pass).plan ≡ k) (lt : tree < k.trees) (a : Asking) (of : IsOf pass tree asked a) (interval : IsInterval a.range)
    (marked : (knows pass).mark ≡ pass.number + 1) (first : HoldsFirst (knows pass) row) (licensed : (knows pass).licensed ≡ true)
    (stays pool vacant : RowImage) (loaded : IsLoaded (knows pass) here stays) (pool_loaded : IsLoaded (knows pass) (knows pass).plan.trees pool)
    (row_loaded : IsLoaded (knows pass) row vacant) (at : ℕ) (at_most : at ≤ length rows)
    (between : StandsBetween a.range (take at rows) (drop at rows)) (unbuffered : NoBufferBegins (knows pass) tree here a.txn rows)
    (plan : List RowImage)
    (plans : PlansRows a.tree a.range stays (taken_from pool vacant ∷ []) plan
    (take at rows ++ new_row a.txn a.range vacant.row ∷ drop at rows) (take at hangs ++ 0 ∷ 0 ∷ drop (at + 1) hangs)) where
  abbrev v : View
  v = knows pass

  abbrev more : List ℕ
  more = row ∷ v.plan.trees ∷ []

  lt_here : tree < v.plan.trees
  lt_here = subst (λ (p : RowPlan). tree < p.trees) (sym plan_is) lt

  asked_is : IsInterval asked
  asked_is = subst IsInterval of.2 interval

  pool_in : 0 < times v.plan.trees more
  pool_in = let o : one_if (nat_eq v.plan.trees v.plan.trees) ≡ 1 = ap one_if (eq-eqb v.plan.trees v.plan.trees refl) in omega arith

  vacant_loaded : IsLoaded v vacant.row vacant
  vacant_loaded = subst (λ (n : ℕ). IsLoaded v n vacant) (sym row_loaded.row) row_loaded

  vacant_in : 0 < times vacant.row more
  vacant_in = let o : one_if (nat_eq row vacant.row) ≡ 1 = ap one_if (eq-eqb row vacant.row (sym row_loaded.row)) in omega arith

  first_is : slice_index pool.words 17 ≡ vacant.row + 1
  first_is =
      sym (ap (λ (ws : List ℕ). (node_of ws).left)
      (loaded_at v tree asked here rows hangs more l lt_here asked_is v.plan.trees pool (l.held_more.held v.plan.trees pool_in) pool_loaded)
      ∙ is_left pool.words)
      ∙ (first.3 ∙ ap (λ (n : ℕ). n + 1) (sym row_loaded.row))

  abbrev new_rows : List PartRow
  new_rows = take at rows ++ new_row a.txn asked vacant.row ∷ drop at rows

  abbrev new_hangs : List ℕ
  new_hangs = take at hangs ++ 0 ∷ 0 ∷ drop (at + 1) hangs

  plans_here : PlansRows tree asked stays (taken_from pool vacant ∷ []) plan new_rows new_hangs
  plans_here =
      subst (λ (x : ℕ × Interval). PlansRows x.0 x.1 stays (taken_from pool vacant ∷ []) plan
      (take at rows ++ new_row a.txn x.1 vacant.row ∷ drop at rows) new_hangs)
      (λ j. (of.1 j, of.2 j)) plans

  whole : take at rows ++ drop at rows ≡ rows
  whole = take-append-drop at rows

  put_served : IsCommit v.plan v record { pass = a.pass; txn = a.txn; deed = Ask a.tree a.range Granted } plan (pos 1)
  put_served =
      put_in_plan_commits v tree asked here (take at rows) (drop at rows) hangs more stays pool vacant plan
      record { pass = a.pass; txn = a.txn; deed = Ask a.tree a.range Granted }
      (subst (λ (rs : List PartRow). IsLockedWith v tree asked here rs hangs more) (sym whole) l)
      (subst (λ (rs : List PartRow). IsClosed asked rs hangs) (sym whole) closed) lt_here asked_is
      (subst (λ (i : Interval). StandsBetween i (take at rows) (drop at rows)) of.2 between)
      (subst (λ (rs : List PartRow). NoBufferBegins v tree here a.txn rs) (sym whole) unbuffered) licensed pool_in vacant_in first_is loaded
      pool_loaded vacant_loaded
      (subst (λ (n : ℕ). PlansRows tree asked stays (taken_from pool vacant ∷ []) plan new_rows (take n hangs ++ 0 ∷ 0 ∷ drop (n + 1) hangs))
      (sym (length-take-le at rows at_most)) plans_here)
      (ap (λ (n : ℕ). n + 1) of.0 ∙ sym marked) (λ j. Ask (of.1 j) (of.2 j) Granted)

  counts : (q : ℕ) → times q (numbers new_rows) ≡ times q (numbers rows) + times q (vacant.row ∷ [])
  counts q =
      numbers_more (take at rows) (new_row a.txn asked vacant.row) (drop at rows) q
      ∙ ap (λ (rs : List PartRow). times q (numbers rs) + times q (vacant.row ∷ [])) whole

  put_held : AllHeld v.held plan
  put_held = all_held v.held plan (λ q some. held_row v q (is_held q some))
    where
      in_more : (q : ℕ) → 0 < times q (v.plan.trees ∷ vacant.row ∷ []) → IsIn (has v) q
      in_more q some = dite (ℕ_discrete v.plan.trees q)
          (λ e. subst (IsIn (has v)) e (l.held_more.held v.plan.trees pool_in))
          (λ ne. let z : one_if (nat_eq v.plan.trees q) ≡ 0 = ap one_if (ne_eqb v.plan.trees q ne) in
          dite (ℕ_discrete vacant.row q)
          (λ e. subst (IsIn (has v)) e (l.held_more.held vacant.row vacant_in))
          (λ nv. let y : one_if (nat_eq vacant.row q) ≡ 0 = ap one_if (ne_eqb vacant.row q nv) in absurd (omega arith)))

      is_held : (q : ℕ) → 0 < times q (planned_rows plan) → IsIn (has v) q
      is_held q some =
          let n = ap (times q) (numbers_are v tree asked here rows hangs more l closed lt_here) in
          dite (ℕ_discrete (times q (v.plan.trees ∷ vacant.row ∷ [])) 0)
          (λ z. dite (ℕ_discrete (times q (here ∷ numbers rows)) 0)
          (λ y. absurd (let x = put_only v tree asked here rows hangs more l closed lt_here asked_is pool vacant pool_in vacant_in first_is
          pool_loaded vacant_loaded stays loaded plan new_rows new_hangs plans_here counts q (omega arith) in omega arith))
          (λ ny. l.held_rows q (omega arith)))
          (λ ne. in_more q (omega arith))

  -- both that a search's end asks of the plan
  pub put_in_all : AllHeld v.held plan
      × IsCommit v.plan v record { pass = a.pass; txn = a.txn; deed = Ask a.tree a.range Granted } plan (pos 1)
  put_in_all = (put_held, put_served)
