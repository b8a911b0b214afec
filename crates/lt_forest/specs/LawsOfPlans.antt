-- What is true of the rows that a plan leaves, and of the gaps that it makes.
use Rattle.std.specs.Prelude.{◌≡◌, ◌≢◌, ◌⊎◌, ℕ, ◌+◌, ◌<◌, List, [], ◌∷◌, Bool}
use Rattle.lt_ranges.specs.Interval.{Interval}
use Rattle.lt_seq.specs.declared.event.Mode.{Mode}
use Rattle.lt_seq.specs.declared.event.Mode.TheVariants.{Buffer}
use Rattle.lt_seq.specs.declared.event.Deed.{Deed}
use Rattle.lt_seq.specs.Sound.{AllSound}
use Rattle.lt_seq.specs.Table.{Setting, TreeState}
use Rattle.lt_forest.specs.Counts.{times}
use Rattle.lt_forest.specs.Bounds.{Gap}
use Rattle.lt_forest.specs.Trees.{Nodes, in_order}
use Rattle.lt_forest.specs.Cuts.{Cut, Shows, bare, IsRow}
use Rattle.lt_forest.specs.Forest.{Forest, IsTree, IsChain, IsForest}
use Rattle.lt_forest.specs.Buffers.{PutsFirst}
use Rattle.lt_forest.specs.Plans.{Top, from_anchor, from_row, HasPartGap, IsSeen, IsPart, Lays}
use Rattle.lt_forest.specs.Links.{Slot, row_with, link_in, IsLink}
use Rattle.lt_forest.specs.Views.{IsIn, Agrees, IsView, AllHeld, PlanLays, PlansThese, PlanEnds, PlanDrops}

-- No other tree's anchor is changed where a part is laid anew,
abbrev pub OtherAnchorsStay : Type 0
OtherAnchorsStay =
    (trees rows : ℕ) (c d : Nodes) (mode : ℕ → Mode) (state : List TreeState) (f : Forest) (t : ℕ) (top : Top) (cut new : Cut)
    (taken given : List ℕ) (s : ℕ)
    → IsPart trees rows c mode state f t top cut → Lays trees t top c d cut new taken given
    → s < trees → s ≢ t → c s ≡ d s

-- and none is in the plan for it,
abbrev pub PlanKeepsAnchors : Type 0
PlanKeepsAnchors =
    (has : ℕ → Bool) (planned : List ℕ) (v v' : Nodes) (trees rows : ℕ) (c d : Nodes) (mode : ℕ → Mode) (state : List TreeState)
    (f : Forest) (t : ℕ) (top : Top) (cut new : Cut) (taken given : List ℕ) (s : ℕ)
    → IsForest trees rows c mode state f → AllSound state → t < trees → IsTree (mode t) → IsSeen c (f.tree t) top
    → IsView (IsIn has) planned v v' c d → PlanLays (IsIn has) planned trees t top v v' cut new taken given
    → s < trees → s ≢ t → times s planned ≡ 0

-- or in one that puts a row first in a buffer, ends a buffer or drops one.
abbrev pub FirstKeepsAnchors : Type 0
FirstKeepsAnchors =
    (has : ℕ → Bool) (planned : List ℕ) (v v' : Nodes) (trees rows : ℕ) (c d : Nodes) (mode : ℕ → Mode) (state : List TreeState)
    (f : Forest) (t q txn : ℕ) (range : Interval) (s : ℕ)
    → IsForest trees rows c mode state f → IsView (IsIn has) planned v v' c d → PlansThese (IsIn has) planned (t ∷ trees ∷ q ∷ [])
    → PutsFirst trees t q txn range v v' → s < trees → s ≢ t → times s planned ≡ 0

abbrev pub EndKeepsAnchors : Type 0
EndKeepsAnchors =
    (has : ℕ → Bool) (planned : List ℕ) (v v' : Nodes) (trees rows : ℕ) (c d : Nodes) (mode : ℕ → Mode) (state : List TreeState)
    (f : Forest) (setting : Setting) (txn owner count : ℕ) (deed : Deed) (t : ℕ) (after : Mode) (olds : List ℕ) (new : Cut)
    (taken given : List ℕ) (s : ℕ)
    → IsForest trees rows c mode state f → t < trees → IsView (IsIn has) planned v v' c d
    → PlanEnds (IsIn has) planned setting trees txn owner count deed t v v' (mode t) after olds new taken given
    → s < trees → s ≢ t → times s planned ≡ 0

abbrev pub DropKeepsAnchors : Type 0
DropKeepsAnchors =
    (has : ℕ → Bool) (planned : List ℕ) (v v' : Nodes) (trees rows : ℕ) (c d : Nodes) (mode : ℕ → Mode) (state : List TreeState)
    (f : Forest) (t owner count : ℕ) (after : Mode) (front : List ℕ) (last s : ℕ)
    → IsForest trees rows c mode state f → t < trees → IsView (IsIn has) planned v v' c d
    → PlanDrops (IsIn has) planned trees t owner count v v' (mode t) after front last
    → s < trees → s ≢ t → times s planned ≡ 0

-- The gaps that a plan's images give to the rows of a new part are those that its rows will give.
abbrev pub PartGapIsRead : Type 0
PartGapIsRead =
    (has : ℕ → Bool) (planned : List ℕ) (v v' c d : Nodes) (top : Top) (new : Cut) (q : ℕ) (g : Gap)
    → IsView (IsIn has) planned v v' c d → AllHeld (IsIn has) (in_order (bare new))
    → HasPartGap top new v' q g → HasPartGap top new d q g

-- The row from which a part hangs has the gap that was seen for it.
abbrev pub TopKeepsGap : Type 0
TopKeepsGap =
    (d : Nodes) (h : ℕ) (g : Gap) (new : Cut) → Shows d (h + 1) new → IsRow h new → HasPartGap (from_row h g) new d h g

-- What names a row of a part that goes to the pool is a link of one of the part's rows, or of the anchor from which it hangs,
abbrev pub GivenAreNamedWithin : Type 0
GivenAreNamedWithin =
    (trees rows : ℕ) (c d : Nodes) (mode : ℕ → Mode) (state : List TreeState) (f : Forest) (t : ℕ) (top : Top) (cut new : Cut)
    (taken given : List ℕ) (q : ℕ) (l : Slot)
    → IsPart trees rows c mode state f t top cut → Lays trees t top c d cut new taken given
    → IsRow q cut → 0 < times q given → IsLink trees f l → link_in c l ≡ q + 1
    → IsRow (row_with l) cut ⊎ ((top ≡ from_anchor) × (row_with l ≡ t))

-- and what names a row of a buffer is a link of the buffer's rows or of its anchor.
abbrev pub ChainIsNamedWithin : Type 0
ChainIsNamedWithin =
    (trees rows : ℕ) (c : Nodes) (mode : ℕ → Mode) (state : List TreeState) (f : Forest) (t owner count : ℕ) (olds : List ℕ)
    (q : ℕ) (l : Slot)
    → IsForest trees rows c mode state f → t < trees → mode t ≡ Buffer owner count → IsChain c (c t).left olds
    → 0 < times q olds → IsLink trees f l → link_in c l ≡ q + 1 → (row_with l ≡ t) ⊎ (0 < times (row_with l) olds)

-- So a pass that gives such a row to the pool holds the row whose link names it.
abbrev pub GivenAreNamedByHeld : Type 0
GivenAreNamedByHeld =
    (has : ℕ → Bool) (planned : List ℕ) (v v' : Nodes) (trees rows : ℕ) (c d : Nodes) (mode : ℕ → Mode) (state : List TreeState)
    (f : Forest) (t : ℕ) (top : Top) (cut new : Cut) (taken given : List ℕ) (q : ℕ) (l : Slot)
    → IsForest trees rows c mode state f → AllSound state → t < trees → IsTree (mode t) → IsSeen c (f.tree t) top
    → IsView (IsIn has) planned v v' c d → PlanLays (IsIn has) planned trees t top v v' cut new taken given
    → IsRow q cut → 0 < times q given → IsLink trees f l → link_in c l ≡ q + 1 → IsIn has (row_with l)

abbrev pub ChainIsNamedByHeld : Type 0
ChainIsNamedByHeld =
    (has : ℕ → Bool) (v : Nodes) (trees rows : ℕ) (c : Nodes) (mode : ℕ → Mode) (state : List TreeState) (f : Forest)
    (t owner count : ℕ) (olds : List ℕ) (q : ℕ) (l : Slot)
    → IsForest trees rows c mode state f → Agrees (IsIn has) v c → AllHeld (IsIn has) (t ∷ olds) → t < trees
    → mode t ≡ Buffer owner count → IsChain v (v t).left olds → 0 < times q olds → IsLink trees f l → link_in c l ≡ q + 1
    → IsIn has (row_with l)
