-- A forest: below the anchor of each tree grows a search tree or a chain, below the pool's anchor a chain of vacant rows.
-- The rows below trees are the trees' anchors, row trees is the pool's, and the others are the further rows. An anchor's
-- left link leads to its tree's top row, to its chain's first row, or to the pool's first row.
use Rattle.std.specs.Prelude.{◌≡◌, ◌≢◌, ℕ, ◌+◌, ◌<◌, List, [], ◌∷◌, length, None}
use Rattle.lt_seq.specs.declared.event.Pair.{Pair}
use Rattle.lt_seq.specs.declared.event.Mode.{Mode}
use Rattle.lt_seq.specs.declared.event.Mode.TheVariants.{Tree as TreeMode, Buffer}
use Rattle.lt_seq.specs.Pairs.{granted}
use Rattle.lt_seq.specs.Table.{TreeState, tree_at, used}
use Rattle.lt_forest.specs.Counts.{times, total}
use Rattle.lt_forest.specs.Bounds.{Gap}
use Rattle.lt_forest.specs.Trees.{Tree, Nodes, LeadsTo, in_order, pairs_in, HasGap}

-- what grows below a tree's anchor: a search tree in Tree mode, a chain in Buffer mode
pub data Growth : Type 0 where
  search_tree : Tree → Growth
  chain : List ℕ → Growth

abbrev pub rows_at : Growth → List ℕ
rows_at (search_tree t) = in_order t
rows_at (chain rows) = rows

pub record Forest : Type 0 where
  pub tree : ℕ → Growth
  pub pool : List ℕ

abbrev pub IsTree : Mode → Type 0
IsTree (TreeMode score) = Unit {0}
IsTree (Buffer txn count) = ⊥

-- the link leads along these rows to the end of their chain
abbrev pub IsChain : Nodes → ℕ → List ℕ → Type 0
IsChain c link [] = link ≡ 0
IsChain c link (r ∷ rows) = (link ≡ r + 1) × IsChain c (c r).left rows

-- the link leads along these rows to another link
abbrev pub IsRun : Nodes → ℕ → List ℕ → ℕ → Type 0
IsRun c link [] last = link ≡ last
IsRun c link (r ∷ rows) last = (link ≡ r + 1) × IsRun c (c r).left rows last

-- a chain's pairs: what its rows grant, from the last to the first
abbrev pub folded : ℕ → Nodes → List ℕ → List Pair
folded txn c [] = []
folded txn c (r ∷ rows) = granted txn (c r).range (folded txn c rows)

-- the rows are one transaction's
abbrev pub AllOf : ℕ → Nodes → List ℕ → Type 0
AllOf txn c [] = Unit {0}
AllOf txn c (r ∷ rows) = ((c r).owner ≡ txn) × AllOf txn c rows

-- the link leads to this growth, which represents the pairs in the mode
abbrev pub Represents : Nodes → ℕ → Growth → List Pair → Mode → Type 0
Represents c link (search_tree t) pairs (TreeMode score) = LeadsTo c link t × (pairs_in c t ≡ pairs)
Represents c link (search_tree t) pairs (Buffer txn count) = ⊥
Represents c link (chain rows) pairs (TreeMode score) = ⊥
Represents c link (chain rows) pairs (Buffer txn count) =
    IsChain c link rows × AllOf txn c rows × (folded txn c rows ≡ pairs) × (count ≡ length rows)

-- how often a row stands in the forest
abbrev pub stands : ℕ → Forest → ℕ → ℕ
stands trees f r = total (λ t. times r (rows_at (f.tree t))) trees + times r f.pool

-- c is what the rows hold, mode what the anchors show, and state the table that they represent
pub record IsForest (trees rows : ℕ) (c : Nodes) (mode : ℕ → Mode) (state : List TreeState) (f : Forest) : Type 0 where
  pub size : length state ≡ trees
  pub grown : (t : ℕ) → t < trees → Represents c (c t).left (f.tree t) (tree_at state t).pairs (mode t)
  pub modes : (t : ℕ) → t < trees → mode t ≡ (tree_at state t).mode
  pub vacant : IsChain c (c trees).left f.pool
  -- each further row stands once, and no other row
  pub once : (r : ℕ) → trees < r → r < rows → stands trees f r ≡ 1
  pub further : (r : ℕ) → 0 < stands trees f r → (trees < r) × (r < rows)
  -- rows that grow below the anchors, rows of the pool, and the anchors with the pool's are as many as there are rows
  pub many : total (λ t. length (rows_at (f.tree t))) trees + length f.pool + trees + 1 ≡ rows

-- the row q stands in the search tree, and g lies within its gap
abbrev pub GapIn : Nodes → Growth → ℕ → Gap → Type 0
GapIn c (search_tree t) q g = HasGap c t None None q g
GapIn c (chain rows) q g = ⊥

-- The row q stands in the tree t, which is in Tree mode, and g lies within its gap. A score of 100 that was read with the
-- gap is the tree's.
pub record IsPlaced (trees : ℕ) (c : Nodes) (mode : ℕ → Mode) (f : Forest) (t q : ℕ) (g : Gap) (score : ℕ) : Type 0 where
  pub tree : t < trees
  pub gap : GapIn c (f.tree t) q g
  pub full : score ≡ 100 → mode t ≡ TreeMode 100

-- only these rows may hold something else
abbrev pub ChangesOnly : List ℕ → Nodes → Nodes → Type 0
ChangesOnly rows c d = (r : ℕ) → times r rows ≡ 0 → c r ≡ d r

-- of the trees' modes only this one's may be another
abbrev pub KeepsModes : ℕ → ℕ → (ℕ → Mode) → (ℕ → Mode) → Type 0
KeepsModes trees t mode mode' = (s : ℕ) → s < trees → s ≢ t → mode s ≡ mode' s

abbrev pub NoRow : ℕ → Type 0
NoRow r = ⊥

-- What a plan makes of a forest: one of the table after, in which each row that isn't left keeps the gap that was seen for
-- it, and which has as many rows in use as before, less those that are gone and with those that came.
pub record Becomes (trees rows : ℕ) (c d : Nodes) (mode mode' : ℕ → Mode) (state after : List TreeState) (f : Forest)
    (IsLeft : ℕ → Type 0) (gone come : ℕ) : Type 0 where
  pub next : Forest
  pub forest : IsForest trees rows d mode' after next
  pub others : (s q : ℕ) (g : Gap) (score : ℕ) → (IsLeft q → ⊥)
      → IsPlaced trees c mode f s q g score → IsPlaced trees d mode' next s q g score
  pub used_rows : used after + gone ≡ used state + come
