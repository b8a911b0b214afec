-- The links that a forest follows.
use Rattle.std.specs.Prelude.{◌≡◌, ◌⊎◌, ℕ, ◌+◌, ◌<◌, ◌≤◌}
use Rattle.lt_forest.specs.Counts.{times}
use Rattle.lt_forest.specs.Trees.{Nodes, in_order}
use Rattle.lt_forest.specs.Forest.{Growth, search_tree, chain, Forest}

-- where a link stands: on a row's left or right side
pub data Slot : Type 0 where
  left_of : ℕ → Slot
  right_of : ℕ → Slot

abbrev pub row_with : Slot → ℕ
row_with (left_of r) = r
row_with (right_of r) = r

abbrev pub link_in : Nodes → Slot → ℕ
link_in c (left_of r) = (c r).left
link_in c (right_of r) = (c r).right

-- both links of a search tree's row are followed, and the left one of a chain's
abbrev pub IsLinkOf : Growth → Slot → Type 0
IsLinkOf (search_tree t) (left_of r) = 0 < times r (in_order t)
IsLinkOf (search_tree t) (right_of r) = 0 < times r (in_order t)
IsLinkOf (chain rows) (left_of r) = 0 < times r rows
IsLinkOf (chain rows) (right_of r) = ⊥

-- the left link of an anchor, the pool's among them
abbrev pub IsAnchorLink : ℕ → Slot → Type 0
IsAnchorLink trees (left_of r) = r ≤ trees
IsAnchorLink trees (right_of r) = ⊥

-- a link of an anchor, of a row of a tree or of a row of the pool
abbrev pub IsLink : ℕ → Forest → Slot → Type 0
IsLink trees f s =
    IsAnchorLink trees s ⊎ (((t : ℕ) × (t < trees) × IsLinkOf (f.tree t) s) ⊎ IsLinkOf (chain f.pool) s)

-- the row q leads to the row r, by one of these links or by several
pub data Leads (c : Nodes) (P : Slot → Type 0) : ℕ → ℕ → Type 0 where
  by_link : (s : Slot) (r : ℕ) → P s → link_in c s ≡ r + 1 → Leads c P (row_with s) r
  and_on : {q : ℕ} (s : Slot) (r : ℕ) → Leads c P q (row_with s) → P s → link_in c s ≡ r + 1 → Leads c P q r
