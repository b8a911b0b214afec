-- Plans that lay a buffer's pairs out as a tree, as they are made.
use Rattle.std.specs.Prelude.{◌≡◌, ℕ, ◌+◌, ◌<◌, List, [], ◌∷◌, ◌++◌, length, replicate, slice_index, slice_set}
use Rattle.lt_ranges.specs.Interval.{Interval}
use Rattle.lt_seq.specs.declared.event.Mode.TheVariants.{Tree as TreeMode}
use Rattle.lt_forest.specs.declared.part.PartRow.{PartRow}
use Rattle.lt_forest.specs.Parts.{numbers}
use Rattle.lt_forest.specs.Views.{IsIn, PlansOnly, PoolPlan}
use Rattle.lt_rows.specs.declared.image.RowImage.{RowImage}
use Rattle.lt_rows.specs.declared.view.View.{View}
use Rattle.lt_rows.specs.Lawful.{shown, shown_after, mode_after}
use Rattle.lt_rows.specs.Teaching.{Teaches}
use Rattle.lt_rows.specs.Views.{has, planned_rows}
use Rattle.lt_tree.specs.Puttings.{Keeps}
use Rattle.lt_chain.specs.Chains.{HoldsChain}
use Rattle.lt_locktree.specs.Endings.{LaysTree, TakeOver}
use Rattle.lt_locktree.specs.Given.{IsChained, given_to}
use Rattle.lt_locktree.specs.LawsOfPlans.{taken_from}
use Rattle.lt_locktree.specs.PlannedParts.{PlansRows, IsLoaded}

-- the anchor as that of a tree with this score
abbrev pub as_tree : RowImage → ℕ → RowImage
as_tree anchor score = record { row = anchor.row; words = slice_set (slice_set (slice_set anchor.words 0 0) 19 score) 20 0 }

-- behind other images the plan has those of these rows as a whole tree, and the anchor's
abbrev pub PlansTree : ℕ → Interval → RowImage → ℕ → List RowImage → List RowImage → List PartRow → Type 0
PlansTree tree asked anchor score others plan rows = PlansRows tree asked (as_tree anchor score) others plan rows (replicate (length rows + 1) 0)

-- what the laws of endings ask of a plan
pub record LaysOut (v : View) (plan : List RowImage) (tree score : ℕ) (olds : List ℕ) (rows : List PartRow) (taken given : List ℕ) : Type 0 where
  pub lays : LaysTree v plan tree rows
  pub mode : mode_after v plan tree ≡ TreeMode score
  pub pool : PoolPlan (IsIn (has v)) (planned_rows plan) v.plan.trees (shown v plan) (shown_after v plan) taken given
  pub only : PlansOnly (tree ∷ v.plan.trees ∷ olds ++ taken) (planned_rows plan)

-- The pairs are as many as the chain's rows: the plan has these and the anchor alone.
abbrev pub KeptPlanLaysOut : Type 0
KeptPlanLaysOut =
    (v : View) (tree : ℕ) (asked : Interval) (anchor : RowImage) (score : ℕ) (olds : List ℕ) (rows : List PartRow) (plan : List RowImage)
    → HoldsChain v tree olds → Teaches v → tree < v.plan.trees → IsLoaded v tree anchor → TakeOver olds rows [] []
    → PlansTree tree asked anchor score [] plan rows
    → LaysOut v plan tree score olds rows [] []

-- They are fewer: the rows that are over are chained to the front of the pool.
abbrev pub GivenPlanLaysOut : Type 0
GivenPlanLaysOut =
    (v : View) (tree : ℕ) (asked : Interval) (anchor pool : RowImage) (score : ℕ) (olds : List ℕ) (rows over : List PartRow)
    (given : List RowImage) (link : ℕ) (plan : List RowImage)
    → Keeps v (v.plan.trees ∷ tree ∷ olds) → IsLoaded v tree anchor → IsLoaded v v.plan.trees pool
    → IsChained given link over (slice_index pool.words 17) → TakeOver olds rows [] (numbers over)
    → PlansTree tree asked anchor score (given_to pool link ∷ given) plan rows
    → LaysOut v plan tree score olds rows [] (numbers over)

-- There is one more: it stands in the pool's first row.
abbrev pub TakenPlanLaysOut : Type 0
TakenPlanLaysOut =
    (v : View) (tree : ℕ) (asked : Interval) (anchor pool vacant : RowImage) (score : ℕ) (olds : List ℕ) (rows : List PartRow)
    (plan : List RowImage)
    → Keeps v (vacant.row ∷ v.plan.trees ∷ tree ∷ olds) → slice_index pool.words 17 ≡ vacant.row + 1
    → IsLoaded v tree anchor → IsLoaded v v.plan.trees pool → IsLoaded v vacant.row vacant → TakeOver olds rows (vacant.row ∷ []) []
    → PlansTree tree asked anchor score (taken_from pool vacant ∷ []) plan rows
    → LaysOut v plan tree score olds rows (vacant.row ∷ []) []
