-- The rows that a pass holds to end a buffer, and the plan that it makes of them.
use Rattle.std.specs.Prelude.{◌≡◌, ℕ, ◌+◌, ◌≤◌, List, [], ◌∷◌, ◌++◌, map, length, drop, reverse, slice_index}
use Rattle.lt_ranges.specs.Interval.{Interval}
use Rattle.lt_seq.specs.declared.event.Pair.{Pair}
use Rattle.lt_forest.specs.declared.part.PartRow.{PartRow}
use Rattle.lt_forest.specs.Parts.{row_pair, numbers}
use Rattle.lt_rows.specs.declared.image.RowImage.{RowImage}
use Rattle.lt_rows.specs.declared.view.View.{View}
use Rattle.lt_rows.specs.Teaching.{Teaches}
use Rattle.lt_tree.specs.Puttings.{Backs}
use Rattle.lt_chain.specs.Chains.{ShowsChain}
use Rattle.lt_locktree.specs.declared.buffer_rows.Spare.{Spare}
use Rattle.lt_locktree.specs.declared.buffer_rows.Spare.TheVariants.{Nothing, Anchor, First}
use Rattle.lt_locktree.specs.declared.buffer_rows.EndRows.{EndRows}
use Rattle.lt_locktree.specs.Endings.{TakeOver}
use Rattle.lt_locktree.specs.EndingPlans.{LaysOut, PlansTree}
use Rattle.lt_locktree.specs.EndingRows.{stood_in}
use Rattle.lt_locktree.specs.Given.{IsChained, given_to}
use Rattle.lt_locktree.specs.LawsOfPlans.{taken_from}
use Rattle.lt_locktree.specs.PlannedParts.{IsLoaded}

-- what is held of the pool, by the numbers
abbrev pub spare_rows : Spare → List ℕ
spare_rows Nothing = []
spare_rows (Anchor pool) = pool.row ∷ []
spare_rows (First pool row) = row.row ∷ pool.row ∷ []

-- So many pairs need it besides so many rows.
abbrev pub HasRoom : ℕ → ℕ → Spare → Type 0
HasRoom rows pairs Nothing = pairs ≡ rows
HasRoom rows pairs (Anchor pool) = pairs ≤ rows
HasRoom rows pairs (First pool row) = pairs ≡ rows + 1

-- as it was loaded
abbrev pub IsSpare : View → Spare → Type 0
IsSpare v Nothing = Unit {0}
IsSpare v (Anchor pool) = IsLoaded v v.plan.trees pool
IsSpare v (First pool row) = IsLoaded v v.plan.trees pool × IsLoaded v row.row row × (slice_index pool.words 17 ≡ row.row + 1)

-- The pass holds the anchor, the whole chain, what the pairs need of the pool, and no other row.
pub record HoldsEnds (v : View) (tree : ℕ) (olds : List ℕ) (pairs : ℕ) (i : EndRows) : Type 0 where
  pub backs : Backs v (spare_rows i.spare ++ tree ∷ olds)
  pub shows : ShowsChain v tree olds
  pub teaches : Teaches v
  pub anchor : IsLoaded v tree i.anchor
  pub room : HasRoom (length olds) pairs i.spare
  pub spare : IsSpare v i.spare

-- behind the pool's anchor the plan has the rows that are over, and then the pairs in the others
pub record PlansGiven (tree : ℕ) (asked : Interval) (anchor pool : RowImage) (score : ℕ) (olds : List ℕ) (pairs : List Pair)
    (plan : List RowImage) : Type 0 where
  pub over : List PartRow
  pub given : List RowImage
  pub link : ℕ
  pub over_are : numbers over ≡ drop (length pairs) olds
  pub chained : IsChained given link (reverse over) (slice_index pool.words 17)
  pub plans : PlansTree tree asked anchor score (given_to pool link ∷ given) plan (stood_in olds pairs)

-- The plan as it is made of what is held of the pool.
abbrev pub PlansEnd : ℕ → Interval → ℕ → List ℕ → List Pair → RowImage → Spare → List RowImage → Type 0
PlansEnd tree asked score olds pairs anchor Nothing plan = PlansTree tree asked anchor score [] plan (stood_in olds pairs)
PlansEnd tree asked score olds pairs anchor (Anchor pool) plan = PlansGiven tree asked anchor pool score olds pairs plan
PlansEnd tree asked score olds pairs anchor (First pool row) plan =
    PlansTree tree asked anchor score (taken_from pool row ∷ []) plan (stood_in (row.row ∷ olds) pairs)

-- rows of a chain by their numbers
abbrev pub rows_with : Interval → List ℕ → List PartRow
rows_with range rows = map (λ (r : ℕ). record { row = r; owner = 0; range = range }) rows

-- The plan lays these pairs out as a tree with this score, in the chain's rows and one of the pool.
pub record LaysPairs (v : View) (plan : List RowImage) (tree score : ℕ) (olds : List ℕ) (pairs : List Pair) : Type 0 where
  pub rows : List PartRow
  pub taken : List ℕ
  pub given : List ℕ
  pub pairs_are : map row_pair rows ≡ pairs
  pub over : TakeOver olds rows taken given
  pub lays : LaysOut v plan tree score olds rows taken given
