-- Search trees of rows, and the gaps in which their rows stand.
use Rattle.std.specs.Prelude.{◌≡◌, ◌⊎◌, ℕ, ◌+◌, List, [], ◌∷◌, ◌++◌, map, Some}
use Rattle.lt_ranges.specs.Interval.{Interval, IsInterval}
use Rattle.lt_seq.specs.declared.event.Pair.{Pair}
use Rattle.lt_forest.specs.Bounds.{Bound, Gap, IsAbove, IsBelow, Within}

-- what a row holds; a link is 0 for none, and else a row's number plus 1
pub record Node : Type 0 where
  pub owner : ℕ
  pub range : Interval
  pub left : ℕ
  pub right : ℕ

-- what the rows hold, by their numbers
abbrev pub Nodes : Type 0
Nodes = ℕ → Node

pub data Tree : Type 0 where
  leaf : Tree
  node : Tree → ℕ → Tree → Tree

-- a row's range with its owner
abbrev pub pair_of : Nodes → ℕ → Pair
pair_of c r = record { owner = (c r).owner; range = (c r).range }

-- the ends of a row's range, as bounds of what stands to the left of it and to the right
abbrev pub left_end : Nodes → ℕ → Bound
left_end c r = Some (c r).range.left

abbrev pub right_end : Nodes → ℕ → Bound
right_end c r = Some (c r).range.right

-- the link leads to this tree
abbrev pub LeadsTo : Nodes → ℕ → Tree → Type 0
LeadsTo c link leaf = link ≡ 0
LeadsTo c link (node a r b) = (link ≡ r + 1) × LeadsTo c (c r).left a × LeadsTo c (c r).right b

-- the rows in key order
abbrev pub in_order : Tree → List ℕ
in_order leaf = []
in_order (node a r b) = in_order a ++ r ∷ in_order b

-- and their ranges with the owners
abbrev pub pairs_in : Nodes → Tree → List Pair
pairs_in c t = map (pair_of c) (in_order t)

-- each range lies within the bounds x and y, behind all to its left and before all to its right
abbrev pub IsOrdered : Nodes → Tree → Bound → Bound → Type 0
IsOrdered c leaf x y = Unit {0}
IsOrdered c (node a r b) x y =
    IsInterval (c r).range × IsAbove x (c r).range.left × IsBelow y (c r).range.right
    × IsOrdered c a x (left_end c r) × IsOrdered c b (right_end c r) y

-- the row q stands in the tree, whose bounds are x and y, and g is its gap:
-- the nearest ends of the rows above it, on either side
abbrev pub IsGap : Nodes → Tree → Bound → Bound → ℕ → Gap → Type 0
IsGap c leaf x y q g = ⊥
IsGap c (node a r b) x y q g =
    ((q ≡ r) × (g ≡ (x, y))) ⊎ (IsGap c a x (left_end c r) q g ⊎ IsGap c b (right_end c r) y q g)

-- the row q stands in the tree, and g lies within its gap
abbrev pub HasGap : Nodes → Tree → Bound → Bound → ℕ → Gap → Type 0
HasGap c leaf x y q g = ⊥
HasGap c (node a r b) x y q g =
    ((q ≡ r) × Within g x y) ⊎ (HasGap c a x (left_end c r) q g ⊎ HasGap c b (right_end c r) y q g)
