-- A free, as a function asks for it.
use Rattle.std.proofs.Common.{◌≡◌, ◌⊎◌, ℕ, ◌+◌, ◌<◌, Bool, false, inl, inr, if◌then◌else◌, length-set, List, [], ◌∷◌, length, map, refl, sym, ap, ◌∙◌, subst, arith, eq-eqb, ne_eqb}
use Rattle.std.specs.Prelude.{pos, ℤ, ◌+ℤ◌, nat_eq, nat_lt, ◌&&◌, reverse, slice_index}
use mathlib.Core.Logic.{dite}
use native.Mathlib.Decide.{ℕ_discrete}
use Rattle.lt_ranges.specs.Interval.{Interval, IsInterval}
use Rattle.lt_seq.specs.declared.event.Deed.TheVariants.{Free}
use Rattle.lt_rows.specs.declared.row_plan.RowPlan.{RowPlan}
use Rattle.lt_seq.specs.Pairs.{count_freed}
use Rattle.lt_seq.specs.Table.{raised}
use Rattle.lt_forest.specs.declared.part.PartRow.{PartRow}
use Rattle.lt_forest.specs.Counts.{one_if, times}
use Rattle.lt_forest.specs.Parts.{row_pair}
use Rattle.lt_forest.specs.Views.{IsIn}
use Rattle.lt_rows.specs.declared.image.RowImage.{RowImage}
use Rattle.lt_rows.specs.declared.pass.RowPass.{RowPass}
use Rattle.lt_rows.specs.Handles.{knows}
use Rattle.lt_rows.specs.Lawful.{IsCommit}
use Rattle.lt_rows.specs.Nodes.{node_of, mode_of}
use Rattle.lt_rows.specs.Views.{has, images, AllHeld, planned_rows}
use Rattle.lt_rows.proofs.Planned.{held_row}
use Rattle.lt_tree.specs.declared.pool.PoolRows.{PoolRows}
use Rattle.lt_tree.specs.declared.pool.PoolRows.TheVariants.{Nothing, Anchor, Vacant}
use Rattle.lt_tree.specs.Gathers.{Place, below_top, on_left, on_right, TopIs, IsLockedWith, IsClosed}
use Rattle.lt_tree.proofs.ReleaseLaws.{anchor_top}
use Rattle.lt_tree.specs.Pools.{pool_rows, with_anchor}
use Rattle.lt_locktree.specs.declared.asking.Asking.{Asking}
use Rattle.lt_locktree.specs.declared.leaving.LeftOut.{LeftOut}
use Rattle.lt_locktree.specs.Given.{IsChained}
use Rattle.lt_locktree.specs.LawsOfFrees.{freed_rows, KeepsScore}
use Rattle.lt_locktree.specs.LawsOfFreePlans.{RaisesImage}
use Rattle.lt_locktree.specs.Leavings.{IsLeftOut, PlansFreed, scored}
use Rattle.lt_locktree.specs.Makes.{IsOf}
use Rattle.lt_locktree.specs.PlannedParts.{IsLoaded, ShowsRow}
use Rattle.lt_locktree.proofs.FreedParts.{count_is, keeps_score}
use Rattle.lt_locktree.proofs.LaidParts.{loaded_image}
use Rattle.lt_locktree.proofs.Relinks.{score_set, score_raised}
use Rattle.lt_locktree.proofs.FreePlans.{free_times, free_plan_commits}
use Rattle.lt_locktree.proofs.GrantedRuns.{numbers_are, length-numbers}
use Rattle.lt_locktree.proofs.GrownServed.{all_held}

-- the pool's anchor is among the rows that are held of the pool
pub anchor_in : (trees : ℕ) (p : PoolRows) → 0 < times trees (pool_rows trees (with_anchor p))
anchor_in trees Nothing = let o : one_if (nat_eq trees trees) ≡ 1 = ap one_if (eq-eqb trees trees refl) in omega arith
anchor_in trees Anchor = let o : one_if (nat_eq trees trees) ≡ 1 = ap one_if (eq-eqb trees trees refl) in omega arith
anchor_in trees (Vacant row) = let o : one_if (nat_eq trees trees) ≡ 1 = ap one_if (eq-eqb trees trees refl) in omega arith

-- the rows that go are as many as the ranges that are freed
pub left_count : (txn : ℕ) (range : Interval) (rows : List PartRow) (hangs : List ℕ) (left : LeftOut) → IsLeftOut txn range rows hangs left
    → count_freed txn range (map row_pair rows) ≡ length left.gone.items
left_count txn range rows hangs left is =
    count_is txn range rows ∙ (length-numbers (freed_rows txn range rows) ∙ ap (λ (rs : List PartRow). length rs) (sym is.gone_are))

module _ (pass : RowPass) (k : RowPlan) (tree : ℕ) (asked : Interval) (here : ℕ) (rows : List PartRow) (hangs more : List ℕ)
    (l : IsLockedWith (knows pass) tree asked here rows hangs more) (closed : IsClosed asked rows hangs)
    (plan_is : (knows pass).plan ≡ k) (lt : tree < k.trees) (a : Asking) (of : IsOf pass tree asked a) (interval : IsInterval a.range)
    (marked : (knows pass).mark ≡ pass.number + 1) (pool_in : 0 < times (knows pass).plan.trees more) (first : Bool)
    (top : (first ≡ false) ⊎ (here ≡ tree)) (stays pool : RowImage)
    (loaded : IsLoaded (knows pass) here stays) (pool_loaded : IsLoaded (knows pass) (knows pass).plan.trees pool) (left : LeftOut)
    (is : IsLeftOut a.txn a.range rows hangs left) (plan : List RowImage) (plans : PlansFreed a.tree a.range (scored first stays) pool left plan) where
  lt_here : tree < (knows pass).plan.trees
  lt_here = subst (λ (p : RowPlan). tree < p.trees) (sym plan_is) lt

  asked_is : IsInterval asked
  asked_is = subst IsInterval of.2 interval

  left_here : IsLeftOut a.txn asked rows hangs left
  left_here = subst (λ (i : Interval). IsLeftOut a.txn i rows hangs left) of.2 is

  plans_here : PlansFreed tree asked (scored first stays) pool left plan
  plans_here = subst (λ (x : ℕ × Interval). PlansFreed x.0 x.1 (scored first stays) pool left plan) (λ j. (of.1 j, of.2 j)) plans

  count_here : count_freed a.txn asked (map row_pair rows) ≡ length left.gone.items
  count_here = left_count a.txn asked rows hangs left left_here

  chained_here : IsChained plans_here.chained plans_here.link (reverse (freed_rows a.txn asked rows)) (slice_index pool.words 17)
  chained_here =
      subst (λ (rs : List PartRow). IsChained plans_here.chained plans_here.link (reverse rs) (slice_index pool.words 17)) left_here.gone_are
      plans_here.chained_is

  -- the row that stays is as it was but for the anchor's score

  was : images (knows pass) here ≡ stays.words
  was = loaded_image (knows pass) tree asked here rows hangs more l lt_here asked_is stays loaded

  abbrev score : ℕ
  score = if first && nat_lt (slice_index stays.words 19) 100 then slice_index stays.words 19 + 1 else slice_index stays.words 19

  seen : ShowsRow (knows pass) here (scored first stays)
  seen = record {
    row = loaded.row;
    node = ap node_of was ∙ sym (score_set stays.words score);
    long = length-set stays.words 19 score ∙ loaded.long;
  }

  raises : RaisesImage (knows pass) tree (scored first stays) first l.place
  raises = by l.place refl
    where
      by : (p : Place) → l.place ≡ p → RaisesImage (knows pass) tree (scored first stays) first p
      by below_top at =
          let is = subst (λ (p : Place). TopIs p tree here l.top) at l.top_is in
          score_raised first stays loaded.long
          ∙ ap (λ (ws : List ℕ). raised first (mode_of ws)) (sym was ∙ ap (images (knows pass)) is.0)
      by on_left at = tt
      by on_right at = tt

  keeps : KeepsScore l.place first l.score
  keeps = by top
    where
      by : (first ≡ false) ⊎ (here ≡ tree) → KeepsScore l.place first l.score
      by (inl e) = keeps_score l.place first l.score (inl e)
      by (inr e) = subst (λ (p : Place). KeepsScore p first l.score) (sym (anchor_top (knows pass) tree asked here rows hangs l lt_here e).0) tt

  free_served : (change : ℤ) → change +ℤ pos (length left.gone.items) ≡ pos 0
      → IsCommit (knows pass).plan (knows pass)
      record { pass = a.pass; txn = a.txn; deed = Free a.tree a.range first (length left.gone.items) } plan change
  free_served change counts =
      free_plan_commits (knows pass) tree asked here rows left.part.rows.items hangs left.part.hangs.items more (scored first stays) pool plans_here.chained plan
      plans_here.link first record { pass = a.pass; txn = a.txn; deed = Free a.tree a.range first (length left.gone.items) } change l closed lt_here
      asked_is keeps raises left_here.left_out pool_in seen pool_loaded chained_here plans_here.plans
      (ap (λ (n : ℕ). n + 1) of.0 ∙ sym marked)
      (λ j. Free (of.1 j) (of.2 j) first (sym count_here j))
      (ap (λ (n : ℕ). change +ℤ pos n) count_here ∙ counts)

  free_held : AllHeld (knows pass).held plan
  free_held = all_held (knows pass).held plan (λ q some. held_row (knows pass) q (is_held q some))
    where
      in_more : (q : ℕ) → 0 < times q ((knows pass).plan.trees ∷ []) → IsIn (has (knows pass)) q
      in_more q some = dite (ℕ_discrete (knows pass).plan.trees q)
          (λ e. subst (IsIn (has (knows pass))) e (l.held_more.held (knows pass).plan.trees pool_in))
          (λ ne. let z : one_if (nat_eq (knows pass).plan.trees q) ≡ 0 = ap one_if (ne_eqb (knows pass).plan.trees q ne) in absurd (omega arith))

      is_held : (q : ℕ) → 0 < times q (planned_rows plan) → IsIn (has (knows pass)) q
      is_held q some =
          let t = free_times (knows pass) tree asked here rows hangs more l closed lt_here asked_is pool pool_in pool_loaded a.txn left.part.rows.items
          left.part.hangs.items left_here.left_out plans_here.chained plans_here.link chained_here (scored first stays) seen plan plans_here.plans q in
          let n = ap (times q) (numbers_are (knows pass) tree asked here rows hangs more l closed lt_here) in
          dite (ℕ_discrete (times q ((knows pass).plan.trees ∷ [])) 0)
          (λ z. l.held_rows q (omega arith))
          (λ ne. in_more q (omega arith))

  -- both that a search's end asks of the plan
  pub free_all : (change : ℤ) → change +ℤ pos (length left.gone.items) ≡ pos 0
      → AllHeld (knows pass).held plan
      × IsCommit (knows pass).plan (knows pass)
      record { pass = a.pass; txn = a.txn; deed = Free a.tree a.range first (length left.gone.items) } plan change
  free_all change counts = (free_held, free_served change counts)
