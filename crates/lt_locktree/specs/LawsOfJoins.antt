-- A join of a whole tree, from what a search holds that keeps the anchor.
use Rattle.std.specs.Prelude.{◌≡◌, ℕ, ℤ, pos, ◌+ℤ◌, ◌+◌, ◌<◌, List, [], ◌∷◌, map, length, replicate}
use Rattle.lt_ranges.specs.Interval.{Interval, whole}
use Rattle.lt_seq.specs.declared.event.Event.{Event}
use Rattle.lt_seq.specs.declared.event.Deed.TheVariants.{Join}
use Rattle.lt_seq.specs.History.{after}
use Rattle.lt_seq.specs.Pairs.{joined}
use Rattle.lt_rows.specs.Plan.{setting_of}
use Rattle.lt_seq.specs.Table.{tree_at}
use Rattle.lt_forest.specs.declared.part.PartRow.{PartRow}
use Rattle.lt_forest.specs.Counts.{times}
use Rattle.lt_forest.specs.Parts.{row_pair, numbers}
use Rattle.lt_forest.specs.Views.{IsIn, PlansOnly, PoolPlan}
use Rattle.lt_rows.specs.declared.image.RowImage.{RowImage}
use Rattle.lt_rows.specs.declared.view.View.{View}
use Rattle.lt_rows.specs.Views.{has, planned_rows}
use Rattle.lt_rows.specs.Lawful.{shown, shown_after, mode_before, mode_after, IsCommit}
use Rattle.lt_rows.specs.Rule.{Stood}
use Rattle.lt_rows.specs.Woods.{woods}
use Rattle.lt_tree.specs.Gathers.{below_top, IsLockedWith, IsClosed}
use Rattle.lt_locktree.specs.RelaidRows.{LaysRows}

-- each row stays or is given
pub record StayOrGo (rows rows' : List PartRow) (given : List ℕ) : Type 0 where
  pub each : (q : ℕ) → times q (numbers rows') + times q given ≡ times q (numbers rows)
  pub all : length rows' + length given ≡ length rows

-- Nothing hangs below the rows of the whole tree. Each longest run of neighbours of one owner, between which no mark lies, becomes one
-- row, and the others of the run go to the pool.
abbrev pub JoinCommits : Type 0
JoinCommits =
    (v : View) (tree here : ℕ) (rows rows' : List PartRow) (more given : List ℕ) (plan : List RowImage) (e : Event) (change : ℤ)
    (l : IsLockedWith v tree whole here rows (replicate (length rows + 1) 0) more)
    → IsClosed whole rows (replicate (length rows + 1) 0) → tree < v.plan.trees → l.place ≡ below_top
    → map row_pair rows' ≡ joined v.plan.marks (map row_pair rows)
    → LaysRows v plan l.place here rows' (replicate (length rows' + 1) 0) → mode_after v plan tree ≡ mode_before v plan tree
    → StayOrGo rows rows' given
    → PoolPlan (IsIn (has v)) (planned_rows plan) v.plan.trees (shown v plan) (shown_after v plan) [] given
    → PlansOnly (here ∷ v.plan.trees ∷ numbers rows) (planned_rows plan)
    → e.pass + 1 ≡ v.mark → e.deed ≡ Join tree (length rows) (length rows') → change +ℤ pos (length given) ≡ pos 0
    → IsCommit v.plan v e plan change

-- Where no two neighbours are joined, nothing changes.
abbrev pub NoneJoinedCommits : Type 0
NoneJoinedCommits =
    (v : View) (tree here : ℕ) (rows : List PartRow) (more : List ℕ) (e : Event)
    (l : IsLockedWith v tree whole here rows (replicate (length rows + 1) 0) more)
    → IsClosed whole rows (replicate (length rows + 1) 0) → tree < v.plan.trees → l.place ≡ below_top
    → joined v.plan.marks (map row_pair rows) ≡ map row_pair rows
    → e.pass + 1 ≡ v.mark → e.deed ≡ Join tree (length rows) (length rows)
    → IsCommit v.plan v e [] (pos 0)

-- Behind any history that stood with what is held, the rows of the whole tree have its pairs.
abbrev pub WholeTreeHasRows : Type 0
WholeTreeHasRows =
    (v : View) (tree : ℕ) (asked : Interval) (here : ℕ) (rows : List PartRow) (hangs more : List ℕ) (log : List Event)
    (l : IsLockedWith v tree asked here rows hangs more)
    → IsClosed asked rows hangs → asked ≡ whole → tree < v.plan.trees → here ≡ tree → Stood (woods v.plan) v log
    → map row_pair rows ≡ (tree_at (after (setting_of v.plan) log) tree).pairs
