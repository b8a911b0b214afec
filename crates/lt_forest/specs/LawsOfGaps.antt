-- What is true of the gaps of rows.
use Rattle.std.specs.Prelude.{◌≡◌, ℕ, ◌+◌, ◌<◌, ◌↔◌, None}
use Rattle.lt_seq.specs.declared.event.Mode.{Mode}
use Rattle.lt_seq.specs.declared.event.Mode.TheVariants.{Tree as TreeMode}
use Rattle.lt_seq.specs.Table.{TreeState}
use Rattle.std.specs.Prelude.{List}
use Rattle.lt_forest.specs.Counts.{times}
use Rattle.lt_forest.specs.Bounds.{Bound, Gap, Within}
use Rattle.lt_forest.specs.Trees.{Tree, Nodes, left_end, right_end, LeadsTo, in_order, IsGap, HasGap}
use Rattle.lt_forest.specs.Forest.{Forest, search_tree, IsForest, IsPlaced}

-- a row of a search tree has one gap
abbrev pub RowsHaveOneGap : Type 0
RowsHaveOneGap =
    (trees rows : ℕ) (c : Nodes) (mode : ℕ → Mode) (state : List TreeState) (f : Forest) (t q : ℕ) (tree : Tree)
    → IsForest trees rows c mode state f → t < trees → f.tree t ≡ search_tree tree → 0 < times q (in_order tree)
    → (g : Gap) × IsGap c tree None None q g × ((k : Gap) → IsGap c tree None None q k → k ≡ g)

-- a left child's gap is its parent's, cut at the parent's range
abbrev pub LeftChildsGap : Type 0
LeftChildsGap =
    (c : Nodes) (link : ℕ) (tree : Tree) (x y : Bound) (p r : ℕ) (g : Gap) → LeadsTo c link tree → IsGap c tree x y p g
    → (c p).left ≡ r + 1 → IsGap c tree x y r (g.0, left_end c p)

-- and so is a right child's
abbrev pub RightChildsGap : Type 0
RightChildsGap =
    (c : Nodes) (link : ℕ) (tree : Tree) (x y : Bound) (p r : ℕ) (g : Gap) → LeadsTo c link tree → IsGap c tree x y p g
    → (c p).right ≡ r + 1 → IsGap c tree x y r (right_end c p, g.1)

-- what is seen for a row is what lies within its gap
abbrev pub SeenIsWithin : Type 0
SeenIsWithin =
    (c : Nodes) (tree : Tree) (x y : Bound) (q : ℕ) (g : Gap)
    → HasGap c tree x y q g ↔ ((k : Gap) × IsGap c tree x y q k × Within g k.0 k.1)

-- The gaps that a search sees on its way down are true ones: none at the top row,
abbrev pub TopIsSeen : Type 0
TopIsSeen =
    (trees rows : ℕ) (c : Nodes) (mode : ℕ → Mode) (state : List TreeState) (f : Forest) (t r score : ℕ)
    → IsForest trees rows c mode state f → t < trees → mode t ≡ TreeMode score → (c t).left ≡ r + 1
    → IsPlaced trees c mode f t r (None, None) score

-- and below it the parent's, cut at the parent's range
abbrev pub LeftIsSeen : Type 0
LeftIsSeen =
    (trees rows : ℕ) (c : Nodes) (mode : ℕ → Mode) (state : List TreeState) (f : Forest) (t p r : ℕ) (g : Gap) (score : ℕ)
    → IsForest trees rows c mode state f → IsPlaced trees c mode f t p g score → (c p).left ≡ r + 1
    → IsPlaced trees c mode f t r (g.0, left_end c p) score

abbrev pub RightIsSeen : Type 0
RightIsSeen =
    (trees rows : ℕ) (c : Nodes) (mode : ℕ → Mode) (state : List TreeState) (f : Forest) (t p r : ℕ) (g : Gap) (score : ℕ)
    → IsForest trees rows c mode state f → IsPlaced trees c mode f t p g score → (c p).right ≡ r + 1
    → IsPlaced trees c mode f t r (right_end c p, g.1) score
