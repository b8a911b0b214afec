-- Images of a tree's anchor, of the pool's and of one row more.
use Rattle.std.specs.Prelude.{◌≡◌, ◌≢◌, ◌⊎◌, ℕ, ◌+◌, ◌<◌, List, [], ◌∷◌, ◌++◌, ◌-◌, length, take, None, slice_index}
use Rattle.lt_ranges.specs.Interval.{Interval}
use Rattle.lt_forest.specs.Trees.{Node}
use Rattle.lt_rows.specs.declared.row_plan.RowPlan.{RowPlan}
use Rattle.lt_rows.specs.declared.view.View.{View}
use Rattle.lt_rows.specs.declared.view.Row.{Row}
use Rattle.lt_rows.specs.declared.image.RowImage.{RowImage}
use Rattle.lt_rows.specs.Nodes.{node_of}
use Rattle.lt_rows.specs.Views.{Holds, row_at}
use Rattle.lt_tree.specs.States.{HasWords}
use Rattle.lt_chain.specs.declared.images.Images.{Images}
use Rattle.lt_chain.specs.Buffers.{MayBegin, MayAppend}

-- the three rows are held, and these are their words, which count
pub record HasImages (k : RowPlan) (v : View) (tree : ℕ) (i : Images) : Type 0 where
  pub anchor : HasWords v i.anchor.row i.anchor.words
  pub pool : HasWords v i.pool.row i.pool.words
  pub row : HasWords v i.row.row i.row.words
  pub anchor_row : i.anchor.row ≡ tree
  pub pool_row : i.pool.row ≡ k.trees
  pub further : k.trees < i.row.row

-- no other rows are held
abbrev pub HoldsThree : View → Images → Type 0
HoldsThree v i = (q : ℕ) → q ≢ i.anchor.row → q ≢ i.pool.row → q ≢ i.row.row → row_at v q ≡ None

-- the pool's anchor leads to the row
abbrev pub IsFirst : Images → Type 0
IsFirst i = slice_index i.pool.words 17 ≡ i.row.row + 1

-- the row is held, and this image of it counts
abbrev pub HoldsImage : View → RowImage → Type 0
HoldsImage v image = (row : Row) × Holds v image.row row × (row.image ≡ image.words)

abbrev pub HoldsImages : View → Images → Type 0
HoldsImages v i = HoldsImage v i.anchor × HoldsImage v i.pool × HoldsImage v i.row

abbrev pub AreApart : Images → Type 0
AreApart i = (i.anchor.row ≢ i.pool.row) × (i.anchor.row ≢ i.row.row) × (i.pool.row ≢ i.row.row)

abbrev pub IsGone : View → Images → Type 0
IsGone v i = (row_at v i.anchor.row ≡ None) × (row_at v i.pool.row ≡ None) × (row_at v i.row.row ≡ None)

-- a row of a chain
abbrev pub chain_node : ℕ → Interval → ℕ → Node
chain_node owner range next = record { owner = owner; range = range; left = next; right = 0 }

-- a buffer may get one row more, of which it has so many: none where it is to begin
abbrev pub MayAdd : RowPlan → View → ℕ → ℕ → ℕ → Type 0
MayAdd k v tree txn count = (MayBegin k v tree × (count ≡ 0)) ⊎ MayAppend k v tree txn count

-- the images that put the vacant row at the front of the chain, for this transaction and range, as one row more than so many
pub record AddsRow (i : Images) (txn count : ℕ) (range : Interval) (n : Images) : Type 0 where
  pub anchor_row : n.anchor.row ≡ i.anchor.row
  pub owner : slice_index n.anchor.words 0 ≡ txn
  pub link : slice_index n.anchor.words 17 ≡ i.row.row + 1
  pub count_is : slice_index n.anchor.words 20 ≡ count + 1
  pub pool_row : n.pool.row ≡ i.pool.row
  pub pool_link : slice_index n.pool.words 17 ≡ slice_index i.row.words 17
  pub row_is : n.row.row ≡ i.row.row
  pub node : node_of n.row.words ≡ chain_node txn range (slice_index i.anchor.words 17)

-- the row is the last one of these
abbrev pub EndsWith : List ℕ → Images → Type 0
EndsWith rows i = rows ≡ take (length rows - 1) rows ++ i.row.row ∷ []

-- the images that leave the tree empty, and let the chain's last row lead to the pool's first, and the pool's anchor to the chain
pub record DropsChain (i n : Images) : Type 0 where
  pub anchor_row : n.anchor.row ≡ i.anchor.row
  pub no_owner : slice_index n.anchor.words 0 ≡ 0
  pub no_top : slice_index n.anchor.words 17 ≡ 0
  pub score : slice_index n.anchor.words 19 ≡ 100
  pub pool_row : n.pool.row ≡ i.pool.row
  pub pool_link : slice_index n.pool.words 17 ≡ slice_index i.anchor.words 17
  pub row_is : n.row.row ≡ i.row.row
  pub joint : slice_index n.row.words 17 ≡ slice_index i.pool.words 17
