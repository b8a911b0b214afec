-- Paths from the top of a search tree down to a place in it.
use Rattle.std.specs.Prelude.{ℕ, List, [], ◌∷◌, ◌++◌}
use Rattle.lt_forest.specs.Bounds.{Bound}
use Rattle.lt_forest.specs.Trees.{Tree, node, Nodes, left_end, right_end, in_order}

-- each step has the row that it leaves, and the subtree on that row's other side
pub data Path : Type 0 where
  here : Path
  leftward : Path → ℕ → Tree → Path
  rightward : Tree → ℕ → Path → Path

-- the tree that has t at the end of the path
abbrev pub plug : Path → Tree → Tree
plug here t = t
plug (leftward w r b) t = node (plug w t) r b
plug (rightward a r w) t = node a r (plug w t)

-- the rows before the place
abbrev pub front : Path → List ℕ
front here = []
front (leftward w r b) = front w
front (rightward a r w) = in_order a ++ r ∷ front w

-- and behind it
abbrev pub back : Path → List ℕ
back here = []
back (leftward w r b) = back w ++ r ∷ in_order b
back (rightward a r w) = back w

-- the bounds of the place
abbrev pub lower : Nodes → Path → Bound → Bound
lower c here x = x
lower c (leftward w r b) x = lower c w x
lower c (rightward a r w) x = lower c w (right_end c r)

abbrev pub upper : Nodes → Path → Bound → Bound
upper c here y = y
upper c (leftward w r b) y = upper c w (left_end c r)
upper c (rightward a r w) y = upper c w y
