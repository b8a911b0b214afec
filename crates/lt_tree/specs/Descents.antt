-- A search on its way down.
use Rattle.std.specs.Prelude.{◌≡◌, ◌⊎◌, ℕ, suc, ◌+◌, ◌<◌, ◌≤◌, List, [], ◌∷◌, true, Option, Some, None}
use Rattle.lt_ranges.specs.Interval.{Interval, before, overlap}
use Rattle.lt_forest.specs.Counts.{times}
use Rattle.lt_forest.specs.Bounds.{IsInside}
use Rattle.lt_forest.specs.Trees.{Node}
use Rattle.lt_forest.specs.Forest.{IsTree}
use Rattle.lt_forest.specs.Links.{row_with, Leads}
use Rattle.lt_forest.specs.Views.{IsIn}
use Rattle.lt_rows.specs.declared.view.View.{View}
use Rattle.lt_rows.specs.declared.view.Row.{Row}
use Rattle.lt_rows.specs.declared.view.SeenGap.{SeenGap}
use Rattle.lt_rows.specs.declared.image.RowImage.{RowImage}
use Rattle.lt_rows.specs.Nodes.{node_of, mode_of}
use Rattle.lt_rows.specs.Views.{Holds, IsHeld, has}
use Rattle.lt_rows.specs.Handles.{IsGathering}
use Rattle.lt_rows.specs.Lawful.{shown}
use Rattle.lt_rows.specs.Teaching.{Teaches}
use Rattle.lt_tree.specs.States.{HasWords}
use Rattle.lt_tree.specs.Puttings.{Keeps}

-- how many rows the pass doesn't hold
abbrev pub free_rows : List (Option Row) → ℕ
free_rows [] = 0
free_rows (None ∷ xs) = suc (free_rows xs)
free_rows (Some row ∷ xs) = free_rows xs

-- the row is held, with a gap in this tree
abbrev pub HasGapIn : View → ℕ → ℕ → Type 0
HasGapIn v tree r = (row : Row) × (g : SeenGap) × Holds v r row × (row.gap ≡ Some g) × (g.tree ≡ tree)

-- where the search goes on from a row that doesn't overlap the asked range
abbrev pub GoesTo : Interval → Node → ℕ → Type 0
GoesTo asked n link =
    ((before asked n.range ≡ true) × (link ≡ n.left)) ⊎ ((before n.range asked ≡ true) × (link ≡ n.right))

-- A row below which all that overlaps the asked range stands, and the link that leads there: the anchor of the tree, or a row
-- beside the range in whose gap the range lies.
pub data Spot (v : View) (tree : ℕ) (asked : Interval) (here : RowImage) (link : ℕ) : Type 0 where
  at_anchor : here.row ≡ tree → IsTree (mode_of here.words) → link ≡ (node_of here.words).left → Spot v tree asked here link
  at_row : (row : Row) (g : SeenGap) → Holds v here.row row → row.gap ≡ Some g → g.tree ≡ tree → IsInside g.low g.high asked
      → v.plan.trees < here.row → GoesTo asked (node_of here.words) link → Spot v tree asked here link

-- an anchor with the same mode, below which nothing hangs only where nothing did
abbrev pub ShowsAs : List ℕ → List ℕ → Type 0
ShowsAs was is = (mode_of is ≡ mode_of was) × ((node_of is).left ≡ 0 → (node_of was).left ≡ 0)

-- a kept row: it leads to the one at which the search is
abbrev pub IsAbove : View → ℕ → ℕ → ℕ → Type 0
IsAbove v tree q here =
    IsHeld v q
    × ((q ≡ tree) ⊎ ((v.plan.trees < here) × Leads (shown v []) (λ s. HasGapIn v tree (row_with s)) q here))

-- On the way: the rows above are kept only when the steps are used up.
pub record Descends (v : View) (tree : ℕ) (asked : Interval) (here : RowImage) (link steps : ℕ) (above : List ℕ) : Type 0 where
  pub has : HasWords v here.row here.words
  pub teaches : Teaches v
  pub spot : Spot v tree asked here link
  pub held : (q : ℕ) → IsHeld v q → (q ≡ here.row) ⊎ (0 < times q above)
  pub kept : (q : ℕ) → 0 < times q above → IsAbove v tree q here.row
  pub once : (q : ℕ) → times q above ≤ 1
  pub apart : times here.row above ≡ 0
  pub first : 0 < steps → above ≡ []
  pub gathers : IsGathering v

-- where the search stays: the child on the asked side overlaps and is held, or there is none
abbrev pub Child : View → Interval → ℕ → Option RowImage → Type 0
Child v asked link None = link ≡ 0
Child v asked link (Some child) =
    (link ≡ child.row + 1) × HasWords v child.row child.words × (overlap (node_of child.words).range asked ≡ true)

abbrev pub IsChild : Option RowImage → ℕ → Type 0
IsChild None q = ⊥
IsChild (Some child) q = q ≡ child.row

-- at the end of the way, the rows above still held
pub record Arrives (v : View) (tree : ℕ) (asked : Interval) (here : RowImage) (child : Option RowImage) (above : List ℕ) : Type 0 where
  pub link : ℕ
  pub has : HasWords v here.row here.words
  pub teaches : Teaches v
  pub spot : Spot v tree asked here link
  pub child_is : Child v asked link child
  pub held_all : (q : ℕ) → IsHeld v q → (q ≡ here.row) ⊎ (IsChild child q ⊎ (0 < times q above))
  pub apart : times here.row above ≡ 0
  pub child_apart : (q : ℕ) → IsChild child q → times q above ≡ 0
  pub keeps : Keeps v above

-- and given back: the row that stays and its child alone are held
pub record Stays (v : View) (tree : ℕ) (asked : Interval) (here : RowImage) (child : Option RowImage) : Type 0 where
  pub link : ℕ
  pub has : HasWords v here.row here.words
  pub teaches : Teaches v
  pub spot : Spot v tree asked here link
  pub child_is : Child v asked link child
  pub held_all : (q : ℕ) → IsHeld v q → (q ≡ here.row) ⊎ IsChild child q
  pub gathers : IsGathering v

-- where a search path ends: nothing is there, or a row that overlaps, which is held
abbrev pub EndsAt : View → Interval → ℕ → Type 0
EndsAt v asked link =
    (link ≡ 0) ⊎ ((q : ℕ) × (link ≡ q + 1) × IsIn (has v) q × (overlap (shown v [] q).range asked ≡ true))

-- The row is the last one of the search path whose child on the asked range's side overlaps the range or is missing.
pub record IsLast (v : View) (tree : ℕ) (asked : Interval) (here : ℕ) : Type 0 where
  pub words : List ℕ
  pub link : ℕ
  pub has_words : HasWords v here words
  pub spot : Spot v tree asked record { row = here; words = words } link
  pub ends : EndsAt v asked link
