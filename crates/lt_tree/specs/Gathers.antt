-- The part that a search gathers below the row that stays held.
use Rattle.std.specs.Prelude.{false, suc, zero, Bool, ◌||◌, Option, Some, ◌≡◌, ◌⊎◌, ℕ, ◌+◌, ◌<◌, ◌≤◌, List, [], ◌∷◌, ◌++◌, true, None, take, drop}
use Rattle.lt_ranges.specs.Key.{key_le}
use Rattle.lt_ranges.specs.Interval.{Interval, before}
use Rattle.lt_forest.specs.declared.part.PartRow.{PartRow}
use Rattle.lt_forest.specs.Counts.{times}
use Rattle.lt_forest.specs.Bounds.{Gap, Bound}
use Rattle.lt_forest.specs.Trees.{Node, in_order}
use Rattle.lt_forest.specs.Cuts.{Cut, end, held, Shows, bare, IsAside, AllAside}
use Rattle.lt_forest.specs.Parts.{rows_of, hangs_of, hanging}
use Rattle.lt_forest.specs.Plans.{Top, from_anchor, from_row, IsInGap}
use Rattle.lt_forest.specs.Views.{IsIn, AllHeld}
use Rattle.lt_rows.specs.declared.view.View.{View}
use Rattle.lt_rows.specs.declared.image.RowImage.{RowImage}
use Rattle.lt_rows.specs.Nodes.{node_of}
use Rattle.lt_rows.specs.Views.{IsHeld, has}
use Rattle.lt_rows.specs.Lawful.{shown, KnowsTop}
use Rattle.lt_rows.specs.Handles.{IsGathering}
use Rattle.lt_rows.specs.Teaching.{Teaches}

-- where the part hangs: below the tree's anchor, or on a side of a row
pub data Place : Type 0 where
  below_top : Place
  on_left : Place
  on_right : Place

abbrev pub link_at : Place → Node → ℕ
link_at below_top n = n.left
link_at on_left n = n.left
link_at on_right n = n.right

-- the cut from the top that the held row is, or from the anchor
abbrev pub around : Place → ℕ → Node → Cut → Cut
around below_top h n sub = sub
around on_left h n sub = held sub h (end n.right)
around on_right h n sub = held (end n.left) h sub

abbrev pub TopIs : Place → ℕ → ℕ → Top → Type 0
TopIs below_top tree here top = (here ≡ tree) × (top ≡ from_anchor)
TopIs on_left tree here top = (g : Gap) × (top ≡ from_row here g)
TopIs on_right tree here top = (g : Gap) × (top ≡ from_row here g)

-- the held row's range lies beside the asked one
abbrev pub Beside : Place → Interval → Interval → Type 0
Beside below_top asked range = Unit {0}
Beside on_left asked range = (before asked range ≡ true) × (key_le asked.right range.right ≡ true)
Beside on_right asked range = (before range asked ≡ true) × (key_le range.left asked.left ≡ true)

-- further rows that are held, each named once, and none of these
pub record HoldsMore (v : View) (rows more : List ℕ) : Type 0 where
  pub held : AllHeld (IsIn (has v)) more
  pub once : (q : ℕ) → times q more ≤ 1
  pub apart : (q : ℕ) → 0 < times q more → times q rows ≡ 0

-- A search that holds the row, below it the part of these rows and hangs, and besides these further rows, and no other row. What
-- the part shows hangs from the row on the side of the asked range.
pub record IsLockedWith (v : View) (tree : ℕ) (asked : Interval) (here : ℕ) (rows : List PartRow) (hangs more : List ℕ) : Type 0 where
  pub place : Place
  pub top : Top
  pub score : ℕ
  pub sub : Cut
  pub knows : KnowsTop v tree top score
  pub top_is : TopIs place tree here top
  pub in_gap : IsInGap top asked
  pub beside : Beside place asked (shown v [] here).range
  pub shows : Shows (shown v []) (link_at place (shown v [] here)) sub
  pub held_rows : AllHeld (IsIn (has v)) (here ∷ in_order (bare sub))
  pub held_more : HoldsMore v (here ∷ in_order (bare sub)) more
  pub held_all : (q : ℕ) → IsHeld v q → 0 < times q (here ∷ in_order (bare sub)) + times q more
  pub rows_are : rows_of (shown v []) sub ≡ rows
  pub hangs_are : hangs_of sub ≡ hangs
  pub teaches : Teaches v
  pub gathers : IsGathering v

-- and no further row
abbrev pub IsLocked : View → ℕ → Interval → ℕ → List PartRow → List ℕ → Type 0
IsLocked v tree asked here rows hangs = IsLockedWith v tree asked here rows hangs []

-- a row stands where a link hung, with its two links
pub record PlacedAt (at : ℕ) (rows rows' : List PartRow) (hangs hangs' : List ℕ) : Type 0 where
  pub row : PartRow
  pub left : ℕ
  pub right : ℕ
  pub rows_are : rows' ≡ take at rows ++ row ∷ drop at rows
  pub hangs_are : hangs' ≡ take at hangs ++ left ∷ right ∷ drop (suc at) hangs

abbrev pub is_behind : Interval → Bound → Bool
is_behind asked None = false
is_behind asked (Some k) = key_le asked.right k

-- whether what hangs at a place is aside of the range; x is the right end of the row before the first
abbrev pub aside_at : Interval → Bound → List PartRow → ℕ → Bool
aside_at asked x [] n = is_behind asked x
aside_at asked x (r ∷ rows) zero = key_le r.range.left asked.left || is_behind asked x
aside_at asked x (r ∷ rows) (suc n) = aside_at asked (Some r.range.right) rows n

-- at the first places nothing hangs, or what hangs is aside
abbrev pub Passed : Interval → Bound → List PartRow → List ℕ → ℕ → Type 0
Passed asked x rows hangs zero = Unit {0}
Passed asked x rows [] (suc n) = Unit {0}
Passed asked x [] (l ∷ ls) (suc n) = (l ≡ 0) ⊎ IsAside asked (l, x, None)
Passed asked x (r ∷ rows) (l ∷ ls) (suc n) =
    ((l ≡ 0) ⊎ IsAside asked (l, x, Some r.range.left)) × Passed asked (Some r.range.right) rows ls n

-- all that hangs is aside
abbrev pub IsClosed : Interval → List PartRow → List ℕ → Type 0
IsClosed asked rows hangs = AllAside asked (hanging rows hangs None None)

-- the rows and the hangs with which the gathering begins: the child that overlaps, or nothing
abbrev pub first_rows : Option RowImage → List PartRow
first_rows None = []
first_rows (Some child) =
    record { row = child.row; owner = (node_of child.words).owner; range = (node_of child.words).range } ∷ []

abbrev pub first_hangs : Option RowImage → List ℕ
first_hangs None = 0 ∷ []
first_hangs (Some child) = (node_of child.words).left ∷ (node_of child.words).right ∷ []
