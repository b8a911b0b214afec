-- What is true of parts of search trees, and of plans that lay them anew.
use Rattle.std.specs.Prelude.{◌≡◌, ℕ, ◌<◌, List, [], ◌++◌, true, None}
use Rattle.lt_ranges.specs.Interval.{Interval, overlap, whole}
use Rattle.lt_seq.specs.declared.event.Pair.{Pair}
use Rattle.lt_seq.specs.declared.event.Mode.{Mode}
use Rattle.lt_seq.specs.declared.event.Deed.{Deed}
use Rattle.lt_seq.specs.Pairs.{IsLawful}
use Rattle.lt_seq.specs.Sound.{AllSound}
use Rattle.lt_seq.specs.Table.{Setting, TreeState, tree_at, tree_of}
use Rattle.lt_forest.specs.Counts.{times}
use Rattle.lt_forest.specs.Bounds.{Gap}
use Rattle.lt_forest.specs.Pairs.{Has}
use Rattle.lt_forest.specs.Trees.{Tree, leaf, Nodes, pairs_in, IsOrdered}
use Rattle.lt_forest.specs.Paths.{Path, plug, front, back, lower, upper}
use Rattle.lt_forest.specs.Cuts.{Cut, fill, bare, ends, AllEnds}
use Rattle.lt_forest.specs.Visits.{IsVisited}
use Rattle.lt_forest.specs.Forest.{Forest, search_tree, IsTree, IsForest, KeepsModes}
use Rattle.lt_forest.specs.Plans.{after_deed, IsReplied, Top, from_anchor, from_row, IsInGap, IsPart, IsClosedFor, Lays, range_of, ShowsDeed, Relaid, ReplacedPart}

-- the search trees of a forest are in order
abbrev pub TreesAreOrdered : Type 0
TreesAreOrdered =
    (trees rows : ℕ) (c : Nodes) (mode : ℕ → Mode) (state : List TreeState) (f : Forest) (t : ℕ) (tree : Tree)
    → IsForest trees rows c mode state f → AllSound state → t < trees → f.tree t ≡ search_tree tree
    → IsOrdered c tree None None

-- The closed-part law: where a range lies in the seen gap, and each link that a search for it follows is 0 or leads to a row
-- of the part, each of the tree's pairs that overlaps it is one of the part's.
abbrev pub VisitLeavesOutNone : Type 0
VisitLeavesOutNone =
    (trees rows : ℕ) (c : Nodes) (mode : ℕ → Mode) (state : List TreeState) (f : Forest) (t : ℕ) (top : Top) (cut : Cut)
    (range : Interval) (p : Pair)
    → IsPart trees rows c mode state f t top cut → IsInGap top range → IsVisited c range cut
    → Has p (tree_at state t).pairs → overlap p.range range ≡ true → Has p (pairs_in c (bare cut))

-- such a part is closed
abbrev pub VisitedIsClosed : Type 0
VisitedIsClosed =
    (trees rows : ℕ) (c : Nodes) (mode : ℕ → Mode) (state : List TreeState) (f : Forest) (t : ℕ) (top : Top) (cut : Cut)
    (range : Interval)
    → IsPart trees rows c mode state f t top cut → IsInGap top range → IsVisited c range cut → IsClosedFor range top c cut

-- the same of any closed part
abbrev pub ClosedPartHasAll : Type 0
ClosedPartHasAll =
    (trees rows : ℕ) (c : Nodes) (mode : ℕ → Mode) (state : List TreeState) (f : Forest) (t : ℕ) (top : Top) (cut : Cut)
    (range : Interval) (p : Pair)
    → IsPart trees rows c mode state f t top cut → IsClosedFor range top c cut
    → Has p (tree_at state t).pairs → overlap p.range range ≡ true → Has p (pairs_in c (bare cut))

-- each pair that a part shows is one of its tree's
abbrev pub PartShowsPairs : Type 0
PartShowsPairs =
    (trees rows : ℕ) (c : Nodes) (mode : ℕ → Mode) (state : List TreeState) (f : Forest) (t : ℕ) (top : Top) (cut : Cut) (p : Pair)
    → IsPart trees rows c mode state f t top cut → Has p (pairs_in c (bare cut)) → Has p (tree_at state t).pairs

-- the part below the anchor that is closed for the whole range shows all the tree's pairs
abbrev pub WholePartShowsAll : Type 0
WholePartShowsAll =
    (trees rows : ℕ) (c : Nodes) (mode : ℕ → Mode) (state : List TreeState) (f : Forest) (t : ℕ) (cut : Cut)
    → IsPart trees rows c mode state f t from_anchor cut → IsClosedFor whole from_anchor c cut
    → pairs_in c (bare cut) ≡ (tree_at state t).pairs

-- a tree without a top row has no pairs
abbrev pub EmptyTreeHasNone : Type 0
EmptyTreeHasNone =
    (trees rows : ℕ) (c : Nodes) (mode : ℕ → Mode) (state : List TreeState) (f : Forest) (t : ℕ)
    → IsForest trees rows c mode state f → t < trees → IsTree (mode t) → (c t).left ≡ 0 → (tree_at state t).pairs ≡ []

-- A subtree may be replaced by another whose ranges ascend between the bounds of its place, where each tree that hangs below
-- the new one lies between its bounds there: the whole tree is in order again.
abbrev pub ReplacedIsInOrder : Type 0
ReplacedIsInOrder =
    (c d : Nodes) (hung : ℕ → Tree) (path : Path) (cut new : Cut)
    → hung 0 ≡ leaf → IsOrdered c (plug path (fill hung cut)) None None
    → ((q : ℕ) → 0 < times q (front path ++ back path) → c q ≡ d q)
    → IsOrdered d (bare new) (lower c path None) (upper c path None)
    → AllEnds (λ e. IsOrdered d (hung e.0) e.1 e.2) (ends d new (lower c path None) (upper c path None))
    → IsOrdered d (plug path (fill hung new)) None None

-- A part may be laid anew with any ranges that ascend and lie in the seen gap, where the links that hang stay in their order
-- between bounds that are no tighter: it is a forest again.
abbrev pub PartIsReplaced : Type 0
PartIsReplaced =
    (trees rows : ℕ) (c d : Nodes) (mode : ℕ → Mode) (state : List TreeState) (f : Forest) (t : ℕ) (top : Top) (cut new : Cut)
    (taken given : List ℕ)
    → IsPart trees rows c mode state f t top cut → Lays trees t top c d cut new taken given → IsLawful (pairs_in d (bare new))
    → ((p : Pair) → Has p (pairs_in d (bare new)) → IsInGap top p.range)
    → ReplacedPart trees rows c d mode state f t top cut new

-- A part that is closed for the range of a deed may be laid anew for it: where the new part shows what the deed makes of the
-- old one, the forest is one of the table after the deed, and the deed's replies are the table's. The deed is an ask that is
-- granted or held, a free, a question who holds, or a join.
abbrev pub PartIsLaidForDeed : Type 0
PartIsLaidForDeed =
    (trees rows : ℕ) (c d : Nodes) (mode mode' : ℕ → Mode) (state : List TreeState) (f : Forest) (setting : Setting) (txn : ℕ)
    (deed : Deed) (top : Top) (cut new : Cut) (taken given : List ℕ)
    → IsPart trees rows c mode state f (tree_of deed) top cut → Lays trees (tree_of deed) top c d cut new taken given
    → IsClosedFor (range_of deed) top c cut
    → ShowsDeed setting txn deed c d cut new (mode (tree_of deed)) (mode' (tree_of deed)) → KeepsModes trees (tree_of deed) mode mode'
    → Relaid trees rows c d mode mode' state (after_deed setting txn deed state) f (tree_of deed) top cut new
    × IsReplied setting txn deed state

-- a part may be laid anew with the same pairs, and the table stays
abbrev pub PartIsLaidAgain : Type 0
PartIsLaidAgain =
    (trees rows : ℕ) (c d : Nodes) (mode mode' : ℕ → Mode) (state : List TreeState) (f : Forest) (t : ℕ) (top : Top) (cut new : Cut)
    → IsPart trees rows c mode state f t top cut → Lays trees t top c d cut new [] []
    → pairs_in d (bare new) ≡ pairs_in c (bare cut) → ((s : ℕ) → s < trees → mode s ≡ mode' s)
    → Relaid trees rows c d mode mode' state state f t top cut new

-- The row from which a part hangs does not go to the pool.
abbrev pub TopRowStays : Type 0
TopRowStays =
    (trees rows : ℕ) (c d : Nodes) (mode : ℕ → Mode) (state : List TreeState) (f : Forest) (t h : ℕ) (g : Gap) (cut new : Cut)
    (taken given : List ℕ)
    → IsPart trees rows c mode state f t (from_row h g) cut → Lays trees t (from_row h g) c d cut new taken given
    → times h given ≡ 0
