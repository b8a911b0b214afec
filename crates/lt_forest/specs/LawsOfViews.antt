-- What is true of a forest by what one pass holds and shows. Here has finds the rows that the pass holds, v is what they show,
-- and v' what they show with the images of its plan.
use Rattle.std.specs.Prelude.{◌≡◌, ◌≢◌, ◌⊎◌, ℕ, ◌+◌, ◌<◌, List, [], ◌∷◌, ◌++◌, length, Bool, true, None}
use Rattle.lt_ranges.specs.Interval.{Interval, overlap, whole}
use Rattle.lt_seq.specs.declared.event.Pair.{Pair}
use Rattle.lt_seq.specs.declared.event.Mode.{Mode}
use Rattle.lt_seq.specs.declared.event.Mode.TheVariants.{Tree as TreeMode, Buffer}
use Rattle.lt_seq.specs.declared.event.Reply.TheVariants.{Buffered}
use Rattle.lt_seq.specs.declared.event.Deed.{Deed}
use Rattle.lt_seq.specs.declared.event.Deed.TheVariants.{Ask}
use Rattle.lt_seq.specs.Pairs.{IsLawful}
use Rattle.lt_seq.specs.Sound.{AllSound}
use Rattle.lt_seq.specs.Table.{Setting, TreeState, tree_at, tree_of, is_whole, used}
use Rattle.lt_forest.specs.Counts.{times}
use Rattle.lt_forest.specs.Bounds.{Gap}
use Rattle.lt_forest.specs.Pairs.{Has}
use Rattle.lt_forest.specs.Trees.{Nodes, left_end, right_end, in_order, pairs_in}
use Rattle.lt_forest.specs.Cuts.{Cut, bare, IsRow}
use Rattle.lt_forest.specs.Forest.{NoRow, Forest, IsTree, IsChain, IsRun, AllOf, folded, IsForest, IsPlaced, Becomes}
use Rattle.lt_forest.specs.Plans.{after_deed, IsReplied, Top, from_anchor, IsInGap, IsSeen, IsClosedFor, range_of, Relaid, ReplacedPart}
use Rattle.lt_forest.specs.Buffers.{whole_free, Begins, Appends}
use Rattle.lt_forest.specs.Links.{Slot, row_with, link_in, IsLinkOf, IsLink, Leads}
use Rattle.lt_forest.specs.Views.{IsIn, Agrees, IsView, AllHeld, HoldsPart, PlansModes, SameMode, PlanLays, PlanShows, PlansThese, PlanEnds, PlanDrops}

-- The gap that a pass reads off a held row, or off its tree's anchor, is a true one.
abbrev pub TopIsRead : Type 0
TopIsRead =
    (has : ℕ → Bool) (v : Nodes) (trees rows : ℕ) (c : Nodes) (mode : ℕ → Mode) (state : List TreeState) (f : Forest) (t r score : ℕ)
    → IsForest trees rows c mode state f → Agrees (IsIn has) v c → IsIn has t → t < trees → mode t ≡ TreeMode score
    → (v t).left ≡ r + 1 → IsPlaced trees c mode f t r (None, None) score

abbrev pub LeftIsRead : Type 0
LeftIsRead =
    (has : ℕ → Bool) (v : Nodes) (trees rows : ℕ) (c : Nodes) (mode : ℕ → Mode) (state : List TreeState) (f : Forest)
    (t p r : ℕ) (g : Gap) (score : ℕ)
    → IsForest trees rows c mode state f → Agrees (IsIn has) v c → IsIn has p → IsPlaced trees c mode f t p g score
    → (v p).left ≡ r + 1 → IsPlaced trees c mode f t r (g.0, left_end v p) score

abbrev pub RightIsRead : Type 0
RightIsRead =
    (has : ℕ → Bool) (v : Nodes) (trees rows : ℕ) (c : Nodes) (mode : ℕ → Mode) (state : List TreeState) (f : Forest)
    (t p r : ℕ) (g : Gap) (score : ℕ)
    → IsForest trees rows c mode state f → Agrees (IsIn has) v c → IsIn has p → IsPlaced trees c mode f t p g score
    → (v p).right ≡ r + 1 → IsPlaced trees c mode f t r (right_end v p, g.1) score

-- The links that a pass reads off its rows are 0 or name further rows, and no row is named by two.
abbrev pub ReadLinksNameFurther : Type 0
ReadLinksNameFurther =
    (has : ℕ → Bool) (v : Nodes) (trees rows : ℕ) (c : Nodes) (mode : ℕ → Mode) (state : List TreeState) (f : Forest) (s : Slot)
    → IsForest trees rows c mode state f → Agrees (IsIn has) v c → IsIn has (row_with s) → IsLink trees f s
    → (link_in v s ≡ 0) ⊎ ((r : ℕ) × (link_in v s ≡ r + 1) × (trees < r) × (r < rows))

abbrev pub NoneIsReadTwice : Type 0
NoneIsReadTwice =
    (has : ℕ → Bool) (v : Nodes) (trees rows : ℕ) (c : Nodes) (mode : ℕ → Mode) (state : List TreeState) (f : Forest)
    (s l : Slot) (r : ℕ)
    → IsForest trees rows c mode state f → Agrees (IsIn has) v c → IsIn has (row_with s) → IsIn has (row_with l)
    → IsLink trees f s → IsLink trees f l → s ≢ l → link_in v s ≡ r + 1 → link_in v l ≡ r + 1 → ⊥

-- No held row leads back to itself along held rows.
abbrev pub NoneIsReadBack : Type 0
NoneIsReadBack =
    (has : ℕ → Bool) (v : Nodes) (trees rows : ℕ) (c : Nodes) (mode : ℕ → Mode) (state : List TreeState) (f : Forest) (t q : ℕ)
    → IsForest trees rows c mode state f → Agrees (IsIn has) v c → t < trees
    → Leads v (λ s. IsIn has (row_with s) × IsLinkOf (f.tree t) s) q q → ⊥

-- The link that is read off the pool's anchor names no row with a gap. Where not all rows are in use, it names one.
abbrev pub PoolIsReadApart : Type 0
PoolIsReadApart =
    (has : ℕ → Bool) (v : Nodes) (trees rows : ℕ) (c : Nodes) (mode : ℕ → Mode) (state : List TreeState) (f : Forest)
    (t q : ℕ) (g : Gap) (score : ℕ)
    → IsForest trees rows c mode state f → Agrees (IsIn has) v c → IsIn has trees → IsPlaced trees c mode f t q g score
    → (v trees).left ≡ q + 1 → ⊥

abbrev pub VacantIsRead : Type 0
VacantIsRead =
    (has : ℕ → Bool) (v : Nodes) (trees rows : ℕ) (c : Nodes) (mode : ℕ → Mode) (state : List TreeState) (f : Forest)
    → IsForest trees rows c mode state f → Agrees (IsIn has) v c → IsIn has trees → used state + trees + 1 < rows
    → (q : ℕ) × ((v trees).left ≡ q + 1)

-- The rows of a run that a pass holds, from an anchor in Buffer mode or from the pool's, and those of a part are further rows.
abbrev pub ReadRunIsFurther : Type 0
ReadRunIsFurther =
    (has : ℕ → Bool) (v : Nodes) (trees rows : ℕ) (c : Nodes) (mode : ℕ → Mode) (state : List TreeState) (f : Forest)
    (t owner count last q : ℕ) (run : List ℕ)
    → IsForest trees rows c mode state f → Agrees (IsIn has) v c → AllHeld (IsIn has) (t ∷ run) → t < trees
    → mode t ≡ Buffer owner count → IsRun v (v t).left run last → 0 < times q run → (trees < q) × (q < rows)

abbrev pub ReadPoolIsFurther : Type 0
ReadPoolIsFurther =
    (has : ℕ → Bool) (v : Nodes) (trees rows : ℕ) (c : Nodes) (mode : ℕ → Mode) (state : List TreeState) (f : Forest)
    (last q : ℕ) (run : List ℕ)
    → IsForest trees rows c mode state f → Agrees (IsIn has) v c → AllHeld (IsIn has) (trees ∷ run)
    → IsRun v (v trees).left run last → 0 < times q run → (trees < q) × (q < rows)

abbrev pub HeldPartIsFurther : Type 0
HeldPartIsFurther =
    (has : ℕ → Bool) (v : Nodes) (trees rows : ℕ) (c : Nodes) (mode : ℕ → Mode) (state : List TreeState) (f : Forest) (t : ℕ)
    (top : Top) (cut : Cut) (q : ℕ)
    → IsForest trees rows c mode state f → AllSound state → t < trees → IsTree (mode t) → IsSeen c (f.tree t) top
    → Agrees (IsIn has) v c → HoldsPart (IsIn has) t top v cut → IsRow q cut → (trees < q) × (q < rows)

-- A part that a pass holds shows pairs of its tree. Where it is closed for a range, it shows all that overlap.
abbrev pub HeldPartShowsPairs : Type 0
HeldPartShowsPairs =
    (has : ℕ → Bool) (v : Nodes) (trees rows : ℕ) (c : Nodes) (mode : ℕ → Mode) (state : List TreeState) (f : Forest) (t : ℕ)
    (top : Top) (cut : Cut) (p : Pair)
    → IsForest trees rows c mode state f → AllSound state → t < trees → IsTree (mode t) → IsSeen c (f.tree t) top
    → Agrees (IsIn has) v c → HoldsPart (IsIn has) t top v cut → Has p (pairs_in v (bare cut)) → Has p (tree_at state t).pairs

abbrev pub HeldPartHasAll : Type 0
HeldPartHasAll =
    (has : ℕ → Bool) (v : Nodes) (trees rows : ℕ) (c : Nodes) (mode : ℕ → Mode) (state : List TreeState) (f : Forest) (t : ℕ)
    (top : Top) (cut : Cut) (range : Interval) (p : Pair)
    → IsForest trees rows c mode state f → AllSound state → t < trees → IsTree (mode t) → IsSeen c (f.tree t) top
    → Agrees (IsIn has) v c → HoldsPart (IsIn has) t top v cut → IsClosedFor range top v cut
    → Has p (tree_at state t).pairs → overlap p.range range ≡ true → Has p (pairs_in v (bare cut))

-- and the part below the anchor that is closed for the whole range shows all the tree's pairs
abbrev pub HeldWholeShowsAll : Type 0
HeldWholeShowsAll =
    (has : ℕ → Bool) (v : Nodes) (trees rows : ℕ) (c : Nodes) (mode : ℕ → Mode) (state : List TreeState) (f : Forest) (t : ℕ)
    (cut : Cut)
    → IsForest trees rows c mode state f → AllSound state → t < trees → IsTree (mode t)
    → Agrees (IsIn has) v c → HoldsPart (IsIn has) t from_anchor v cut → IsClosedFor whole from_anchor v cut
    → pairs_in v (bare cut) ≡ (tree_at state t).pairs

-- A chain that a pass holds whole with its anchor shows the buffer.
abbrev pub HeldChainShowsBuffer : Type 0
HeldChainShowsBuffer =
    (has : ℕ → Bool) (v : Nodes) (trees rows : ℕ) (c : Nodes) (mode : ℕ → Mode) (state : List TreeState) (f : Forest)
    (t owner count : ℕ) (chain : List ℕ)
    → IsForest trees rows c mode state f → Agrees (IsIn has) v c → AllHeld (IsIn has) (t ∷ chain) → t < trees
    → mode t ≡ Buffer owner count → IsChain v (v t).left chain
    → (folded owner v chain ≡ (tree_at state t).pairs) × AllOf owner v chain × (count ≡ length chain)

-- What a plan owes for a deed in Tree mode is read off what its pass holds: the part, closed for the deed's range, what the
-- plan makes of it, and the seen gap with its score where the part hangs from a row.
abbrev pub PlanServesDeed : Type 0
PlanServesDeed =
    (has : ℕ → Bool) (planned : List ℕ) (v v' : Nodes) (trees rows : ℕ) (c d : Nodes) (mode mode' : ℕ → Mode)
    (state : List TreeState) (f : Forest) (setting : Setting) (txn score : ℕ) (deed : Deed) (top : Top) (cut new : Cut)
    (taken given : List ℕ)
    → IsForest trees rows c mode state f → AllSound state → tree_of deed < trees → IsSeen c (f.tree (tree_of deed)) top
    → (score ≡ 100 → mode (tree_of deed) ≡ TreeMode 100) → IsView (IsIn has) planned v v' c d
    → PlanLays (IsIn has) planned trees (tree_of deed) top v v' cut new taken given → IsClosedFor (range_of deed) top v cut
    → PlanShows planned setting txn deed top score v v' cut new (mode (tree_of deed)) (mode' (tree_of deed))
    → PlansModes trees planned mode mode'
    → Relaid trees rows c d mode mode' state (after_deed setting txn deed state) f (tree_of deed) top cut new
    × IsReplied setting txn deed state

-- and so is what it owes for a change of layout
abbrev pub PlanServesLayout : Type 0
PlanServesLayout =
    (has : ℕ → Bool) (planned : List ℕ) (v v' : Nodes) (trees rows : ℕ) (c d : Nodes) (mode mode' : ℕ → Mode)
    (state : List TreeState) (f : Forest) (t : ℕ) (top : Top) (cut new : Cut)
    → IsForest trees rows c mode state f → AllSound state → t < trees → IsTree (mode t) → IsSeen c (f.tree t) top
    → IsView (IsIn has) planned v v' c d → PlanLays (IsIn has) planned trees t top v v' cut new [] []
    → pairs_in v' (bare new) ≡ pairs_in v (bare cut)
    → PlansModes trees planned mode mode' → SameMode planned t top (mode t) (mode' t)
    → Relaid trees rows c d mode mode' state state f t top cut new

-- and for any ranges that ascend and lie in the seen gap
abbrev pub PlanServesReplacement : Type 0
PlanServesReplacement =
    (has : ℕ → Bool) (planned : List ℕ) (v v' : Nodes) (trees rows : ℕ) (c d : Nodes) (mode : ℕ → Mode)
    (state : List TreeState) (f : Forest) (t : ℕ) (top : Top) (cut new : Cut) (taken given : List ℕ)
    → IsForest trees rows c mode state f → AllSound state → t < trees → IsTree (mode t) → IsSeen c (f.tree t) top
    → IsView (IsIn has) planned v v' c d → PlanLays (IsIn has) planned trees t top v v' cut new taken given
    → IsLawful (pairs_in v' (bare new)) → ((p : Pair) → Has p (pairs_in v' (bare new)) → IsInGap top p.range)
    → ReplacedPart trees rows c d mode state f t top cut new

-- The same for buffers: one begins,
abbrev pub PlanBegins : Type 0
PlanBegins =
    (has : ℕ → Bool) (planned : List ℕ) (v v' : Nodes) (trees rows : ℕ) (c d : Nodes) (mode mode' : ℕ → Mode)
    (state : List TreeState) (f : Forest) (setting : Setting) (t q txn : ℕ) (range : Interval)
    → IsForest trees rows c mode state f → t < trees → IsView (IsIn has) planned v v' c d
    → PlansThese (IsIn has) planned (t ∷ trees ∷ q ∷ []) → Begins setting trees t q txn range v v' (mode t) (mode' t)
    → PlansModes trees planned mode mode'
    → Becomes trees rows c d mode mode' state (after_deed setting txn (Ask t range Buffered) state) f NoRow 0 1
    × IsReplied setting txn (Ask t range Buffered) state

-- gets one row more,
abbrev pub PlanAppends : Type 0
PlanAppends =
    (has : ℕ → Bool) (planned : List ℕ) (v v' : Nodes) (trees rows : ℕ) (c d : Nodes) (mode mode' : ℕ → Mode)
    (state : List TreeState) (f : Forest) (setting : Setting) (t q txn count : ℕ) (range : Interval)
    → IsForest trees rows c mode state f → t < trees → IsView (IsIn has) planned v v' c d
    → PlansThese (IsIn has) planned (t ∷ trees ∷ q ∷ []) → Appends setting trees t q txn count range v v' (mode t) (mode' t)
    → PlansModes trees planned mode mode'
    → Becomes trees rows c d mode mode' state (after_deed setting txn (Ask t range Buffered) state) f NoRow 0 1
    × IsReplied setting txn (Ask t range Buffered) state

-- ends as a search tree,
abbrev pub PlanEndsBuffer : Type 0
PlanEndsBuffer =
    (has : ℕ → Bool) (planned : List ℕ) (v v' : Nodes) (trees rows : ℕ) (c d : Nodes) (mode mode' : ℕ → Mode)
    (state : List TreeState) (f : Forest) (setting : Setting) (txn owner count : ℕ) (deed : Deed) (olds : List ℕ) (new : Cut)
    (taken given : List ℕ)
    → IsForest trees rows c mode state f → tree_of deed < trees → IsView (IsIn has) planned v v' c d
    → PlanEnds (IsIn has) planned setting trees txn owner count deed (tree_of deed) v v' (mode (tree_of deed))
    (mode' (tree_of deed)) olds new taken given
    → PlansModes trees planned mode mode'
    → Becomes trees rows c d mode mode' state (after_deed setting txn deed state) f NoRow (length olds) (length (in_order (bare new)))
    × IsReplied setting txn deed state

-- or is dropped whole
abbrev pub PlanDropsBuffer : Type 0
PlanDropsBuffer =
    (has : ℕ → Bool) (planned : List ℕ) (v v' : Nodes) (trees rows : ℕ) (c d : Nodes) (mode mode' : ℕ → Mode)
    (state : List TreeState) (f : Forest) (setting : Setting) (t owner count : ℕ) (range : Interval) (first : Bool)
    (front : List ℕ) (last : ℕ)
    → IsForest trees rows c mode state f → t < trees → IsView (IsIn has) planned v v' c d
    → PlanDrops (IsIn has) planned trees t owner count v v' (mode t) (mode' t) front last → PlansModes trees planned mode mode'
    → is_whole range ≡ true
    → Becomes trees rows c d mode mode' state (after_deed setting owner (whole_free t range first owner v (front ++ last ∷ [])) state) f
    NoRow (length (front ++ last ∷ [])) 0
    × IsReplied setting owner (whole_free t range first owner v (front ++ last ∷ [])) state
