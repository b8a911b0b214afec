-- What is true of buffers, and of the plans that change them.
use Rattle.std.specs.Prelude.{◌≡◌, ℕ, ◌<◌, List, [], ◌∷◌, ◌++◌, length, Bool, true}
use Rattle.lt_ranges.specs.Interval.{Interval}
use Rattle.lt_seq.specs.declared.event.Mode.{Mode}
use Rattle.lt_seq.specs.declared.event.Mode.TheVariants.{Buffer}
use Rattle.lt_seq.specs.declared.event.Reply.TheVariants.{Buffered}
use Rattle.lt_seq.specs.declared.event.Deed.{Deed}
use Rattle.lt_seq.specs.declared.event.Deed.TheVariants.{Ask, Who}
use Rattle.lt_seq.specs.Pairs.{granted}
use Rattle.lt_seq.specs.Sound.{AllSound}
use Rattle.lt_seq.specs.Table.{Setting, TreeState, tree_at, tree_of, is_whole}
use Rattle.lt_forest.specs.Trees.{Nodes, in_order}
use Rattle.lt_forest.specs.Cuts.{Cut, bare}
use Rattle.lt_forest.specs.Forest.{NoRow, Forest, IsChain, AllOf, folded, IsForest, ChangesOnly, KeepsModes, Becomes}
use Rattle.lt_forest.specs.Plans.{after_deed, IsReplied, MovesPool}
use Rattle.lt_forest.specs.Buffers.{whole_free, Begins, Appends, Ends, Drops}

-- A chain's pairs are what its rows grant from the last to the first, and they are its transaction's; the mode counts the rows.
abbrev pub ChainShowsBuffer : Type 0
ChainShowsBuffer =
    (trees rows : ℕ) (c : Nodes) (mode : ℕ → Mode) (state : List TreeState) (f : Forest) (t owner count : ℕ) (chain : List ℕ)
    → IsForest trees rows c mode state f → t < trees → mode t ≡ Buffer owner count → IsChain c (c t).left chain
    → (folded owner c chain ≡ (tree_at state t).pairs) × AllOf owner c chain × (count ≡ length chain)

-- a chain with one more row at its front has one grant more
abbrev pub FrontIsGranted : Type 0
FrontIsGranted =
    (c : Nodes) (owner q : ℕ) (chain : List ℕ) → folded owner c (q ∷ chain) ≡ granted owner (c q).range (folded owner c chain)

-- a buffer begins
abbrev pub BufferBegins : Type 0
BufferBegins =
    (trees rows : ℕ) (c d : Nodes) (mode mode' : ℕ → Mode) (state : List TreeState) (f : Forest) (setting : Setting)
    (t q txn : ℕ) (range : Interval)
    → IsForest trees rows c mode state f → t < trees → Begins setting trees t q txn range c d (mode t) (mode' t)
    → ChangesOnly (t ∷ trees ∷ q ∷ []) c d → KeepsModes trees t mode mode'
    → Becomes trees rows c d mode mode' state (after_deed setting txn (Ask t range Buffered) state) f NoRow 0 1
    × IsReplied setting txn (Ask t range Buffered) state

-- a buffer gets one row more
abbrev pub BufferGrows : Type 0
BufferGrows =
    (trees rows : ℕ) (c d : Nodes) (mode mode' : ℕ → Mode) (state : List TreeState) (f : Forest) (setting : Setting)
    (t q txn count : ℕ) (range : Interval)
    → IsForest trees rows c mode state f → t < trees → Appends setting trees t q txn count range c d (mode t) (mode' t)
    → ChangesOnly (t ∷ trees ∷ q ∷ []) c d → KeepsModes trees t mode mode'
    → Becomes trees rows c d mode mode' state (after_deed setting txn (Ask t range Buffered) state) f NoRow 0 1
    × IsReplied setting txn (Ask t range Buffered) state

-- any deed that ends a buffer makes a search tree of it
abbrev pub BufferEnds : Type 0
BufferEnds =
    (trees rows : ℕ) (c d : Nodes) (mode mode' : ℕ → Mode) (state : List TreeState) (f : Forest) (setting : Setting)
    (txn owner count : ℕ) (deed : Deed) (olds : List ℕ) (new : Cut) (taken given : List ℕ)
    → IsForest trees rows c mode state f → tree_of deed < trees
    → Ends setting txn owner count deed (tree_of deed) c d (mode (tree_of deed)) (mode' (tree_of deed)) olds new taken given
    → MovesPool trees c d taken given → ChangesOnly (tree_of deed ∷ trees ∷ olds ++ taken) c d
    → KeepsModes trees (tree_of deed) mode mode'
    → Becomes trees rows c d mode mode' state (after_deed setting txn deed state) f NoRow (length olds) (length (in_order (bare new)))
    × IsReplied setting txn deed state

-- a buffer is dropped whole, as its owner frees the whole range
abbrev pub BufferIsDropped : Type 0
BufferIsDropped =
    (trees rows : ℕ) (c d : Nodes) (mode mode' : ℕ → Mode) (state : List TreeState) (f : Forest) (setting : Setting)
    (t owner count : ℕ) (range : Interval) (first : Bool) (front : List ℕ) (last : ℕ)
    → IsForest trees rows c mode state f → t < trees → Drops trees t owner count c d (mode t) (mode' t) front last
    → ChangesOnly (t ∷ trees ∷ last ∷ []) c d → KeepsModes trees t mode mode' → is_whole range ≡ true
    → Becomes trees rows c d mode mode' state (after_deed setting owner (whole_free t range first owner c (front ++ last ∷ [])) state) f
    NoRow (length (front ++ last ∷ [])) 0
    × IsReplied setting owner (whole_free t range first owner c (front ++ last ∷ [])) state

-- where the question is who holds against a buffer's owner, the answer is nobody, and the table stays as it is
abbrev pub OwnerIsAlone : Type 0
OwnerIsAlone =
    (trees rows : ℕ) (c : Nodes) (mode : ℕ → Mode) (state : List TreeState) (f : Forest) (setting : Setting)
    (t txn owner count : ℕ) (range : Interval)
    → IsForest trees rows c mode state f → AllSound state → t < trees → mode t ≡ Buffer owner count
    → (after_deed setting txn (Who t range owner []) state ≡ state)
    × IsReplied setting txn (Who t range owner []) state
