-- A join, as a function asks for it.
use Rattle.std.proofs.Common.{refl, suc, ◌≡◌, All, get_or, ◌-◌, ◌^◌, ℕ, ◌+◌, ◌<◌, List, [], ◌∷◌, ◌++◌, replicate, length, map, sym, ap, ◌∙◌, subst, arith, ne_eqb}
use Rattle.std.proofs.lemmas.List.Elements.{All-from_get_or}
use Rattle.std.proofs.lemmas.List.{length-map}
use Rattle.std.specs.Prelude.{pos, ℤ, ◌+ℤ◌, nat_eq}
use mathlib.Core.Logic.{dite}
use native.Mathlib.Decide.{ℕ_discrete}
use Rattle.lt_ranges.specs.declared.key.Key.{Key}
use Rattle.lt_ranges.specs.Interval.{Interval, whole}
use Rattle.lt_seq.specs.declared.event.Deed.TheVariants.{Join}
use Rattle.lt_rows.specs.declared.row_plan.RowPlan.{RowPlan}
use Rattle.lt_seq.specs.declared.event.Pair.{Pair}
use Rattle.lt_seq.specs.Pairs.{joined}
use Rattle.lt_forest.specs.declared.part.PartRow.{PartRow}
use Rattle.lt_forest.specs.Counts.{one_if, times}
use Rattle.lt_forest.specs.Parts.{row_pair, numbers}
use Rattle.lt_forest.specs.Views.{IsIn}
use Rattle.lt_rows.specs.declared.image.RowImage.{RowImage}
use Rattle.lt_rows.specs.declared.pass.RowPass.{RowPass}
use Rattle.lt_rows.specs.Handles.{knows}
use Rattle.lt_rows.specs.Lawful.{IsCommit}
use Rattle.lt_rows.specs.Nodes.{node_of, mode_of}
use Rattle.lt_rows.specs.Views.{has, images, AllHeld, planned_rows}
use Rattle.lt_rows.proofs.Planned.{held_row}
use Rattle.lt_tree.specs.Gathers.{below_top, IsLockedWith, IsClosed}
use Rattle.lt_tree.proofs.ReleaseLaws.{anchor_top}
use Rattle.lt_locktree.specs.declared.asking.Asking.{Asking}
use Rattle.lt_locktree.specs.declared.leaving.LeftOut.{LeftOut}
use Rattle.lt_locktree.specs.declared.rejoining.Rejoined.{Rejoined}
use Rattle.lt_locktree.specs.LawsOfJoins.{StayOrGo}
use Rattle.lt_locktree.specs.Given.{given_to}
use Rattle.lt_locktree.specs.Leavings.{PlansFreed}
use Rattle.lt_locktree.specs.Rejoined.{IsRejoined, IsRejoinedPart}
use Rattle.lt_rows.proofs.FirstAsk.{whole_is}
use Rattle.lt_locktree.specs.Makes.{IsOf}
use Rattle.lt_locktree.specs.PlannedParts.{PlansRows, IsLoaded, ShowsRow}
use Rattle.lt_locktree.proofs.LaidParts.{loaded_image}
use Rattle.lt_locktree.proofs.JoinPlans.{join_times, join_plan_commits}
use Rattle.lt_locktree.proofs.GrantedRuns.{numbers_are, length-numbers}
use Rattle.lt_locktree.proofs.GrownServed.{all_held, is_there, row_small}

module _ (pass : RowPass) (k : RowPlan) (tree : ℕ) (here : ℕ) (rows : List PartRow) (more : List ℕ)
    (l : IsLockedWith (knows pass) tree whole here rows (replicate (length rows + 1) 0) more)
    (closed : IsClosed whole rows (replicate (length rows + 1) 0))
    (plan_is : (knows pass).plan ≡ k) (lt : tree < k.trees) (a : Asking) (of : IsOf pass tree whole a)
    (marked : (knows pass).mark ≡ pass.number + 1) (pool_in : 0 < times (knows pass).plan.trees more)
    (top : here ≡ tree) (stays pool : RowImage)
    (loaded : IsLoaded (knows pass) here stays) (pool_loaded : IsLoaded (knows pass) (knows pass).plan.trees pool) (left : LeftOut)
    (is : IsRejoinedPart (knows pass).plan.marks rows left)
    (plan : List RowImage) (plans : PlansFreed a.tree a.range stays pool left plan) where
  abbrev hangs : List ℕ
  hangs = replicate (length rows + 1) 0

  lt_here : tree < (knows pass).plan.trees
  lt_here = subst (λ (p : RowPlan). tree < p.trees) (sym plan_is) lt

  plans_here : PlansFreed tree whole stays pool left plan
  plans_here = subst (λ (x : ℕ × Interval). PlansFreed x.0 x.1 stays pool left plan) (λ j. (of.1 j, of.2 j)) plans

  plans_rows : PlansRows tree whole stays (plans_here.chained ++ given_to pool plans_here.link ∷ []) plan left.part.rows.items
      (replicate (length left.part.rows.items + 1) 0)
  plans_rows =
      subst (λ (hs : List ℕ). PlansRows tree whole stays (plans_here.chained ++ given_to pool plans_here.link ∷ []) plan left.part.rows.items hs)
      is.bare plans_here.plans

  was : images (knows pass) here ≡ stays.words
  was = loaded_image (knows pass) tree whole here rows hangs more l lt_here whole_is stays loaded

  seen : ShowsRow (knows pass) here stays
  seen = record { row = loaded.row; node = ap node_of was; long = loaded.long }

  at : l.place ≡ below_top
  at = (anchor_top (knows pass) tree whole here rows hangs l lt_here top).0

  before_is : length left.part.rows.items + length left.gone.items ≡ length rows
  before_is = ap (λ (n : ℕ). length left.part.rows.items + n) (sym (length-numbers left.gone.items)) ∙ is.parted.all

  join_served : (change : ℤ) → change +ℤ pos (length left.gone.items) ≡ pos 0
      → IsCommit (knows pass).plan (knows pass)
      record {
        pass = a.pass;
        txn = a.txn;
        deed = Join a.tree (length left.part.rows.items + length left.gone.items) (length left.part.rows.items);
      } plan change
  join_served change counts =
      join_plan_commits (knows pass) tree here rows left.part.rows.items left.gone.items more stays pool plans_here.chained plan plans_here.link
      record {
        pass = a.pass;
        txn = a.txn;
        deed = Join a.tree (length left.part.rows.items + length left.gone.items) (length left.part.rows.items);
      } change l closed lt_here at
      (ap mode_of (sym was ∙ ap (images (knows pass)) top))
      is.pairs is.parted pool_in seen pool_loaded plans_here.chained_is plans_rows
      (ap (λ (n : ℕ). n + 1) of.0 ∙ sym marked)
      (λ j. Join (of.1 j) (before_is j) (length left.part.rows.items))
      counts

  join_held : AllHeld (knows pass).held plan
  join_held = all_held (knows pass).held plan (λ q some. held_row (knows pass) q (is_held q some))
    where
      in_more : (q : ℕ) → 0 < times q ((knows pass).plan.trees ∷ []) → IsIn (has (knows pass)) q
      in_more q some = dite (ℕ_discrete (knows pass).plan.trees q)
          (λ e. subst (IsIn (has (knows pass))) e (l.held_more.held (knows pass).plan.trees pool_in))
          (λ ne. let z : one_if (nat_eq (knows pass).plan.trees q) ≡ 0 = ap one_if (ne_eqb (knows pass).plan.trees q ne) in absurd (omega arith))

      is_held : (q : ℕ) → 0 < times q (planned_rows plan) → IsIn (has (knows pass)) q
      is_held q some =
          let t = join_times (knows pass) tree here rows left.part.rows.items left.gone.items more l closed lt_here is.parted pool pool_in pool_loaded
          plans_here.chained plans_here.link plans_here.chained_is stays seen plan plans_rows q in
          let n = ap (times q) (numbers_are (knows pass) tree whole here rows hangs more l closed lt_here) in
          dite (ℕ_discrete (times q ((knows pass).plan.trees ∷ [])) 0)
          (λ z. l.held_rows q (omega arith))
          (λ ne. in_more q (omega arith))

  -- both that a search's end asks of the plan
  pub join_all : (change : ℤ) → change +ℤ pos (length left.gone.items) ≡ pos 0
      → AllHeld (knows pass).held plan
      × IsCommit (knows pass).plan (knows pass)
      record {
        pass = a.pass;
        txn = a.txn;
        deed = Join a.tree (length left.part.rows.items + length left.gone.items) (length left.part.rows.items);
      } plan change
  join_all change counts = (join_held, join_served change counts)

-- the rows that stay have small numbers, as those before them
pub joined_small : (pass : RowPass) (k : RowPlan) (tree here : ℕ) (asked : Interval) (rows : List PartRow) (hangs more : List ℕ)
    → IsLockedWith (knows pass) tree asked here rows hangs more → IsClosed asked rows hangs → (knows pass).plan ≡ k → tree < k.trees
    → (marks : List Key) (left : LeftOut) → IsRejoinedPart marks rows left → All (λ (r : PartRow). r.row < 2 ^ 32 - 1) left.part.rows.items
joined_small pass k tree here asked rows hangs more l closed plan_is lt marks left is =
    let d : PartRow = record { row = 0; owner = 0; range = whole } in
    All-from_get_or (λ (r : PartRow). r.row < 2 ^ 32 - 1) left.part.rows.items d
    (λ i less. row_small pass k tree asked here rows hangs more l closed plan_is lt (get_or left.part.rows.items i d).row
    (let h = is_there left.part.rows.items i d less in let e = is.parted.each (get_or left.part.rows.items i d).row in omega arith))

-- a part with the rows of a join, below which nothing hangs
pub rejoined_part : (marks : List Key) (rows : List PartRow) (after : Rejoined) (left : LeftOut) → IsRejoined marks rows after
    → left.part.rows.items ≡ after.rows.items → left.gone.items ≡ after.gone.items
    → left.part.hangs.items ≡ replicate (length after.rows.items + 1) 0 → IsRejoinedPart marks rows left
rejoined_part marks rows after left is rows_are gone_are bare = record {
  pairs = ap (λ (rs : List PartRow). map row_pair rs) rows_are ∙ is.pairs;
  parted = subst (λ (x : List PartRow × List PartRow). StayOrGo rows x.0 (numbers x.1)) (λ j. (sym rows_are j, sym gone_are j)) is.parted;
  bare = bare ∙ ap (λ (rs : List PartRow). replicate (length rs + 1) 0) (sym rows_are);
}

-- how many rows there were before
pub rows_before : (marks : List Key) (rows : List PartRow) (left : LeftOut) → IsRejoinedPart marks rows left
    → length left.part.rows.items + length left.gone.items ≡ length rows
rows_before marks rows left is = ap (λ (n : ℕ). length left.part.rows.items + n) (sym (length-numbers left.gone.items)) ∙ is.parted.all

-- and how many pairs there are after
pub pairs_after : (marks : List Key) (rows : List PartRow) (left : LeftOut) → IsRejoinedPart marks rows left
    → length left.part.rows.items ≡ length (joined marks (map row_pair rows))
pairs_after marks rows left is = sym (length-map left.part.rows.items row_pair) ∙ ap (λ (ps : List Pair). length ps) is.pairs

-- links that are all 0
pub all_zero : (hs : List ℕ) → All (λ (h : ℕ). h ≡ 0) hs → hs ≡ replicate (length hs) 0
all_zero [] all = refl
all_zero (h ∷ hs) all =
    let first : h ≡ 0 = all 0 0 (omega arith) in
    let rest : hs ≡ replicate (length hs) 0 = all_zero hs (λ k d less. all (suc k) d (omega arith)) in
    λ j. first j ∷ rest j
