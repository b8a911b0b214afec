-- What plans make of buffers, the chains of rows below the anchors in Buffer mode. Here c is what the rows hold before a
-- plan, and d after it. Which rows may change, and which go from the pool and to it, is said beside these facts by ChangesOnly
-- and MovesPool.
use Rattle.std.specs.Prelude.{◌≡◌, ℕ, ◌+◌, ◌<◌, List, [], ◌∷◌, ◌++◌, length, Bool}
use Rattle.lt_ranges.specs.Interval.{Interval}
use Rattle.lt_seq.specs.declared.event.Mode.{Mode}
use Rattle.lt_seq.specs.declared.event.Mode.TheVariants.{Tree as TreeMode, Buffer}
use Rattle.lt_seq.specs.declared.event.Deed.{Deed}
use Rattle.lt_seq.specs.declared.event.Deed.TheVariants.{Free}
use Rattle.lt_seq.specs.Table.{Setting, TreeState, tree_after, replied}
use Rattle.lt_forest.specs.Counts.{times}
use Rattle.lt_forest.specs.Trees.{Nodes, in_order, pairs_in}
use Rattle.lt_forest.specs.Cuts.{Cut, Shows, bare, links}
use Rattle.lt_forest.specs.Forest.{IsTree, IsChain, folded}

-- the pool's first row q becomes the first row of the chain of the tree t, for this transaction and range
pub record PutsFirst (trees t q txn : ℕ) (range : Interval) (c d : Nodes) : Type 0 where
  pub first_vacant : (c trees).left ≡ q + 1
  pub pool_link : (d trees).left ≡ (c q).left
  pub top : (d t).left ≡ q + 1
  pub owner : (d q).owner ≡ txn
  pub range_is : (d q).range ≡ range
  pub next : (d q).left ≡ (c t).left

-- a buffer begins in an empty tree
pub record Begins (setting : Setting) (trees t q txn : ℕ) (range : Interval) (c d : Nodes) (before after : Mode) : Type 0 where
  pub room : 0 < setting.plan.buffer
  pub was : before ≡ TreeMode 100
  pub empty : (c t).left ≡ 0
  pub now : after ≡ Buffer txn 1
  pub puts : PutsFirst trees t q txn range c d

-- a buffer gets one row more
pub record Appends (setting : Setting) (trees t q txn count : ℕ) (range : Interval) (c d : Nodes) (before after : Mode) : Type 0 where
  pub room : count < setting.plan.buffer
  pub was : before ≡ Buffer txn count
  pub now : after ≡ Buffer txn (count + 1)
  pub puts : PutsFirst trees t q txn range c d

-- what a buffer's chain shows of its tree
abbrev pub buffered_state : ℕ → ℕ → Nodes → List ℕ → TreeState
buffered_state owner count c rows = record { pairs = folded owner c rows; mode = Buffer owner count }

-- Any deed that ends a buffer: all rows of its chain are shown, and a tree without hangs, or none, is laid in its place.
pub record Ends (setting : Setting) (txn owner count : ℕ) (deed : Deed) (t : ℕ) (c d : Nodes) (before after : Mode)
    (olds : List ℕ) (new : Cut) (taken given : List ℕ) : Type 0 where
  pub was : before ≡ Buffer owner count
  pub is_tree : IsTree after
  pub shows : IsChain c (c t).left olds
  pub shows_new : Shows d (d t).left new
  pub no_hangs : links new ≡ []
  pub each_row : (q : ℕ) → times q (in_order (bare new)) + times q given ≡ times q olds + times q taken
  pub all_rows : length (in_order (bare new)) + length given ≡ length olds + length taken
  pub pairs : pairs_in d (bare new) ≡ (tree_after setting txn deed (buffered_state owner count c olds)).pairs
  pub mode : after ≡ (tree_after setting txn deed (buffered_state owner count c olds)).mode
  pub replies : replied setting txn deed (buffered_state owner count c olds) ≡ deed

-- The release of a whole buffer: its chain goes to the front of the pool's as it stands, by three changed links.
pub record Drops (trees t owner count : ℕ) (c d : Nodes) (before after : Mode) (front : List ℕ) (last : ℕ) : Type 0 where
  pub was : before ≡ Buffer owner count
  pub now : after ≡ TreeMode 100
  pub shows : IsChain c (c t).left (front ++ last ∷ [])
  pub top : (d t).left ≡ 0
  pub pool_link : (d trees).left ≡ (c t).left
  pub joint : (d last).left ≡ (c trees).left

-- and the free that it is, with the count that the chain shows
abbrev pub whole_free : ℕ → Interval → Bool → ℕ → Nodes → List ℕ → Deed
whole_free t range first owner c chain = Free t range first (length (folded owner c chain))
