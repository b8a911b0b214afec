-- A row and its child that are turned on the way down.
use Rattle.std.specs.Prelude.{◌≡◌, ◌≢◌, ◌⊎◌, ℕ, ◌+◌, ◌^◌, ◌<◌, ◌≤◌, List, [], Some}
use Rattle.lt_ranges.specs.Interval.{Interval}
use Rattle.lt_forest.specs.Bounds.{IsInside}
use Rattle.lt_forest.specs.Counts.{times}
use Rattle.lt_forest.specs.Trees.{Node}
use Rattle.lt_forest.specs.Links.{row_with, Leads}
use Rattle.lt_rows.specs.declared.view.View.{View}
use Rattle.lt_rows.specs.declared.view.Row.{Row}
use Rattle.lt_rows.specs.declared.view.SeenGap.{SeenGap}
use Rattle.lt_rows.specs.declared.image.RowImage.{RowImage}
use Rattle.lt_rows.specs.declared.take.Take.TheVariants.{Taken}
use Rattle.lt_rows.specs.Nodes.{node_of, mode_of}
use Rattle.lt_rows.specs.Views.{Holds, IsHeld, row_at, words_of}
use Rattle.lt_rows.specs.Handles.{Tries, IsGathering}
use Rattle.lt_rows.specs.Lawful.{shown}
use Rattle.lt_rows.specs.Teaching.{Teaches}
use Rattle.lt_tree.specs.declared.estimates.Side.{Side}
use Rattle.lt_tree.specs.declared.estimates.Side.TheVariants.{Left, Right}
use Rattle.lt_tree.specs.States.{HasWords}
use Rattle.lt_tree.specs.Descents.{HasGapIn, Spot, ShowsAs}

-- the link on a side
abbrev pub link_of : Side → Node → ℕ
link_of Left n = n.left
link_of Right n = n.right

-- another link on a side
abbrev pub with_link : Side → ℕ → Node → Node
with_link Left link n = record n { left = link }
with_link Right link n = record n { right = link }

abbrev pub AllLinksSmall : Node → Type 0
AllLinksSmall n = (n.left < 2 ^ 32) × (n.right < 2 ^ 32)

-- the side with the link: the left one where that has it
abbrev pub IsSideTo : Node → ℕ → Side → Type 0
IsSideTo n link Left = n.left ≡ link
IsSideTo n link Right = n.left ≢ link

-- the child, turned, leads to the row on its other side
abbrev pub turned_upper : Side → ℕ → Node → Node
turned_upper Left row child = record child { right = row + 1 }
turned_upper Right row child = record child { left = row + 1 }

-- and the row on this side to what hung on the child's other side
abbrev pub turned_lower : Side → Node → Node → Node
turned_lower Left child row = record row { left = child.right }
turned_lower Right child row = record row { right = child.left }

-- the row is held with a gap in this tree, in which the range lies
abbrev pub HasGapAround : View → ℕ → Interval → ℕ → Type 0
HasGapAround v tree asked r =
    (row : Row) × (g : SeenGap) × Holds v r row × (row.gap ≡ Some g) × (g.tree ≡ tree) × IsInside g.low g.high asked

-- the row with other estimates, or the anchor as it is
abbrev pub IsMeasured : ℕ → RowImage → RowImage → Type 0
IsMeasured tree here now =
    (now.row ≡ here.row) × (node_of now.words ≡ node_of here.words) × (here.row ≡ tree → mode_of now.words ≡ mode_of here.words)

-- the same row; the tree's anchor shows as before
abbrev pub StaysAs : ℕ → RowImage → RowImage → Type 0
StaysAs tree here now = (now.row ≡ here.row) × (here.row ≡ tree → ShowsAs here.words now.words)

-- a row's child on this side is taken and loaded
pub record TakesDeeper (v w : View) (row : RowImage) (side : Side) (low : RowImage) : Type 0 where
  pub link : link_of side (node_of row.words) ≡ low.row + 1
  pub tries : Tries low.row v w Taken
  pub words : low.words ≡ words_of (row_at w low.row)
  pub teaches : Teaches w

-- The search holds a row or the anchor and its child on the asked range's side, and no other row.
pub record HoldsPair (v : View) (tree : ℕ) (asked : Interval) (here child : RowImage) : Type 0 where
  pub has : HasWords v here.row here.words
  pub child_has : HasWords v child.row child.words
  pub teaches : Teaches v
  pub spot : Spot v tree asked here (child.row + 1)
  pub gap : HasGapAround v tree asked child.row
  pub further : v.plan.trees < child.row
  pub apart : child.row ≢ here.row
  pub held : (q : ℕ) → IsHeld v q → (q ≡ child.row) ⊎ (q ≡ here.row)
  pub gathers : IsGathering v

-- And besides the child's child on this side.
pub record HoldsThree (v : View) (tree : ℕ) (asked : Interval) (here child : RowImage) (side : Side) (low : RowImage) : Type 0 where
  pub has : HasWords v here.row here.words
  pub child_has : HasWords v child.row child.words
  pub low_has : HasWords v low.row low.words
  pub teaches : Teaches v
  pub spot : Spot v tree asked here (child.row + 1)
  pub gap : HasGapAround v tree asked child.row
  pub low_gap : HasGapIn v tree low.row
  pub link : link_of side (node_of child.words) ≡ low.row + 1
  pub further : (v.plan.trees < child.row) × (v.plan.trees < low.row)
  pub apart : child.row ≢ here.row
  pub low_apart : (low.row ≢ here.row) × (low.row ≢ child.row)
  pub held : (q : ℕ) → IsHeld v q → (q ≡ low.row) ⊎ ((q ≡ child.row) ⊎ (q ≡ here.row))
  pub gathers : IsGathering v

-- On the way down the search holds a row and its child on the asked range's side, and the rows above, which are kept only when the
-- steps are used up: then each of these leads to the child.
pub record HoldsPath (v : View) (tree : ℕ) (asked : Interval) (here child : RowImage) (steps : ℕ) (above : List ℕ) : Type 0 where
  pub has : HasWords v here.row here.words
  pub child_has : HasWords v child.row child.words
  pub teaches : Teaches v
  pub spot : Spot v tree asked here (child.row + 1)
  pub gap : HasGapAround v tree asked child.row
  pub further : v.plan.trees < child.row
  pub apart : child.row ≢ here.row
  pub held : (q : ℕ) → IsHeld v q → (q ≡ child.row) ⊎ ((q ≡ here.row) ⊎ (0 < times q above))
  pub leads : steps ≡ 0 → (q : ℕ) → IsHeld v q → q ≢ child.row
      → (q ≡ tree) ⊎ Leads (shown v []) (λ s. HasGapIn v tree (row_with s)) q child.row
  pub kept : (q : ℕ) → 0 < times q above → IsHeld v q
  pub once : (q : ℕ) → times q above ≤ 1
  pub here_above : times here.row above ≡ 0
  pub child_above : times child.row above ≡ 0
  pub first : 0 < steps → above ≡ []
  pub gathers : IsGathering v
