-- What a search relies on as it gathers a part. Where a law speaks of any rows c whose cut has lawful pairs, it serves for the true
-- rows, by PartIsLawful, and for what a pass shows, by HeldPartIsLawful.
use Rattle.std.specs.Prelude.{◌≡◌, ◌⊎◌, ◌↔◌, ℕ, ◌+◌, ◌<◌, List, [], ◌∷◌, ◌++◌, true, None, Bool, map}
use Rattle.lt_ranges.specs.Interval.{Interval, IsInterval, overlap}
use Rattle.lt_seq.specs.declared.event.Pair.{Pair}
use Rattle.lt_seq.specs.declared.event.Mode.{Mode}
use Rattle.lt_seq.specs.Pairs.{IsLawful}
use Rattle.lt_seq.specs.Sound.{AllSound}
use Rattle.lt_seq.specs.Table.{TreeState, tree_at}
use Rattle.lt_forest.specs.declared.part.PartRow.{PartRow}
use Rattle.lt_forest.specs.Counts.{times}
use Rattle.lt_forest.specs.Pairs.{Has}
use Rattle.lt_forest.specs.Bounds.{Gap, IsAbove, IsBelow}
use Rattle.lt_forest.specs.Trees.{Nodes, in_order, pairs_in}
use Rattle.lt_forest.specs.Cuts.{Cut, Shows, bare, IsRow, End, ends, HasEnd, IsAside, AllAside}
use Rattle.lt_forest.specs.Visits.{IsVisited, Reaches}
use Rattle.lt_forest.specs.Parts.{rows_of, hangs_of, row_pair, hanging}
use Rattle.lt_forest.specs.Items.{items, first_end, last_end, Ascends}
use Rattle.lt_forest.specs.Forest.{Forest, chain, IsTree, IsForest, GapIn}
use Rattle.lt_forest.specs.Plans.{Top, top_link, IsInGap, IsSeen, IsPart, IsClosedFor}
use Rattle.lt_forest.specs.Links.{Slot, row_with, link_in, IsLinkOf, Leads}
use Rattle.lt_forest.specs.Widenings.{Widens}
use Rattle.lt_forest.specs.Places.{HangsAt, SplitsAt, RunHangsNone, PlaceIsFree}
use Rattle.lt_forest.specs.Views.{IsIn, Agrees, HoldsPart}

-- The rows of a part ascend,
abbrev pub PartIsLawful : Type 0
PartIsLawful =
    (trees rows : ℕ) (c : Nodes) (mode : ℕ → Mode) (state : List TreeState) (f : Forest) (t : ℕ) (top : Top) (cut : Cut)
    → IsPart trees rows c mode state f t top cut → IsLawful (pairs_in c (bare cut))

-- and so do those of a part that a pass holds,
abbrev pub HeldPartIsLawful : Type 0
HeldPartIsLawful =
    (has : ℕ → Bool) (v : Nodes) (trees rows : ℕ) (c : Nodes) (mode : ℕ → Mode) (state : List TreeState) (f : Forest) (t : ℕ)
    (top : Top) (cut : Cut)
    → IsForest trees rows c mode state f → AllSound state → t < trees → IsTree (mode t) → IsSeen c (f.tree t) top
    → Agrees (IsIn has) v c → HoldsPart (IsIn has) t top v cut → IsLawful (pairs_in v (bare cut))

-- also as one list with what hangs.
abbrev pub LawfulPartAscends : Type 0
LawfulPartAscends =
    (c : Nodes) (cut : Cut) → IsLawful (pairs_in c (bare cut)) → Ascends None (items (rows_of c cut) (hangs_of cut))

-- A lawful list splits at any range.
abbrev pub LawfulListSplits : Type 0
LawfulListSplits = (range : Interval) (pairs : List Pair) → IsLawful pairs → IsInterval range → SplitsAt range pairs

-- A part that is widened is a part, and a closed one stays closed,
abbrev pub WidenedIsPart : Type 0
WidenedIsPart =
    (trees rows : ℕ) (c : Nodes) (mode : ℕ → Mode) (state : List TreeState) (f : Forest) (t : ℕ) (top : Top) (cut : Cut)
    (r : ℕ) (before behind : List ℕ) (w : Widens c (top_link top (c t)) cut r before behind)
    → IsPart trees rows c mode state f t top cut → IsPart trees rows c mode state f t top w.wider

abbrev pub WidenedIsClosed : Type 0
WidenedIsClosed =
    (trees rows : ℕ) (c : Nodes) (mode : ℕ → Mode) (state : List TreeState) (f : Forest) (t : ℕ) (top : Top) (cut : Cut)
    (r : ℕ) (before behind : List ℕ) (w : Widens c (top_link top (c t)) cut r before behind) (range : Interval)
    → IsPart trees rows c mode state f t top cut → IsClosedFor range top c cut → IsClosedFor range top c w.wider

-- also as a pass sees it that holds the row taken into it.
abbrev pub HeldWidenedIsPart : Type 0
HeldWidenedIsPart =
    (has : ℕ → Bool) (v : Nodes) (t : ℕ) (top : Top) (cut : Cut)
    (r : ℕ) (before behind : List ℕ) (w : Widens v (top_link top (v t)) cut r before behind)
    → HoldsPart (IsIn has) t top v cut → IsIn has r → HoldsPart (IsIn has) t top v w.wider

abbrev pub HeldWidenedIsClosed : Type 0
HeldWidenedIsClosed =
    (has : ℕ → Bool) (v : Nodes) (trees rows : ℕ) (c : Nodes) (mode : ℕ → Mode) (state : List TreeState) (f : Forest) (t : ℕ)
    (top : Top) (cut : Cut) (r : ℕ) (before behind : List ℕ) (w : Widens v (top_link top (v t)) cut r before behind)
    (range : Interval)
    → IsForest trees rows c mode state f → AllSound state → t < trees → IsTree (mode t) → IsSeen c (f.tree t) top
    → Agrees (IsIn has) v c → HoldsPart (IsIn has) t top v cut → IsIn has r → IsClosedFor range top v cut
    → IsClosedFor range top v w.wider

-- A part is closed where all that hangs in it in key order is aside.
abbrev pub AsideIsClosed : Type 0
AsideIsClosed =
    (c : Nodes) (top : Top) (cut : Cut) (range : Interval) → IsInGap top range
    → AllAside range (hanging (rows_of c cut) (hangs_of cut) None None) → IsClosedFor range top c cut

-- In a closed part nothing hangs between two rows that overlap the range,
abbrev pub NoneHangsBetween : Type 0
NoneHangsBetween =
    (c : Nodes) (top : Top) (cut : Cut) (range : Interval) (ahead : List PartRow) (p : PartRow) (l : ℕ) (q : PartRow)
    (behind : List PartRow)
    → IsLawful (pairs_in c (bare cut)) → IsClosedFor range top c cut
    → HangsAt (rows_of c cut) (hangs_of cut) (ahead ++ p ∷ []) l (q ∷ behind)
    → overlap p.range range ≡ true → overlap q.range range ≡ true → l ≡ 0

-- and nothing where the range itself has its place, between rows that end before it and rows that begin behind it.
abbrev pub NoneHangsThere : Type 0
NoneHangsThere =
    (c : Nodes) (top : Top) (cut : Cut) (range : Interval) (ahead : List PartRow) (l : ℕ) (behind : List PartRow)
    → IsInterval range → IsClosedFor range top c cut → HangsAt (rows_of c cut) (hangs_of cut) ahead l behind
    → IsAbove (last_end ahead None) range.left → IsBelow (first_end behind None) range.right → l ≡ 0

-- So the hangs of a closed part are those that a run of rows that overlap asks of them to become one,
abbrev pub OverlappingRunHangsNone : Type 0
OverlappingRunHangsNone =
    (c : Nodes) (top : Top) (cut : Cut) (range : Interval) (ahead : List PartRow) (r : PartRow) (run behind : List PartRow)
    → IsLawful (pairs_in c (bare cut)) → IsClosedFor range top c cut → rows_of c cut ≡ ahead ++ (r ∷ run ++ behind)
    → ((p : Pair) → Has p (map row_pair (r ∷ run)) → overlap p.range range ≡ true) → RunHangsNone (hangs_of cut) ahead run

-- or a row that is put in.
abbrev pub FreePlaceIsThere : Type 0
FreePlaceIsThere =
    (c : Nodes) (top : Top) (cut : Cut) (range : Interval) (ahead behind : List PartRow)
    → IsInterval range → IsClosedFor range top c cut → rows_of c cut ≡ ahead ++ behind
    → IsAbove (last_end ahead None) range.left → IsBelow (first_end behind None) range.right → PlaceIsFree (hangs_of cut) ahead

-- A search reaches exactly the hangs that aren't aside,
abbrev pub ReachedAreNotAside : Type 0
ReachedAreNotAside =
    (c : Nodes) (cut : Cut) (range : Interval) (e : End) → IsLawful (pairs_in c (bare cut))
    → Reaches c range cut None None e ↔ (HasEnd e (ends c cut None None) × (IsAside range e → ⊥))

-- so each link that it follows from the top of a closed part is 0 or leads to a row of the part.
abbrev pub ClosedIsVisited : Type 0
ClosedIsVisited = (c : Nodes) (top : Top) (cut : Cut) (range : Interval) → IsClosedFor range top c cut → IsVisited c range cut

-- What hangs below a part is a further row that isn't of the part.
abbrev pub HangsNameOthers : Type 0
HangsNameOthers =
    (trees rows : ℕ) (c : Nodes) (mode : ℕ → Mode) (state : List TreeState) (f : Forest) (t : ℕ) (top : Top) (cut : Cut) (r : ℕ)
    → IsPart trees rows c mode state f t top cut → 0 < times (r + 1) (hangs_of cut)
    → (trees < r) × (r < rows) × (times r (in_order (bare cut)) ≡ 0)

abbrev pub HeldHangsNameOthers : Type 0
HeldHangsNameOthers =
    (has : ℕ → Bool) (v : Nodes) (trees rows : ℕ) (c : Nodes) (mode : ℕ → Mode) (state : List TreeState) (f : Forest) (t : ℕ)
    (top : Top) (cut : Cut) (r : ℕ)
    → IsForest trees rows c mode state f → AllSound state → t < trees → IsTree (mode t) → IsSeen c (f.tree t) top
    → Agrees (IsIn has) v c → HoldsPart (IsIn has) t top v cut → 0 < times (r + 1) (hangs_of cut)
    → (trees < r) × (r < rows) × (times r (in_order (bare cut)) ≡ 0)

-- Each row of a cut but its uppermost is named by a link of a row of that cut.
abbrev pub CutRowsAreNamed : Type 0
CutRowsAreNamed =
    (c : Nodes) (link : ℕ) (cut : Cut) (q : ℕ) → Shows c link cut → IsRow q cut
    → (link ≡ q + 1) ⊎ ((s : Slot) × IsRow (row_with s) cut × (link_in c s ≡ q + 1))

-- and where a pass holds the part, by a link of a row that it holds
abbrev pub HeldRowsAreNamed : Type 0
HeldRowsAreNamed =
    (has : ℕ → Bool) (v : Nodes) (t : ℕ) (top : Top) (cut : Cut) (q : ℕ) → HoldsPart (IsIn has) t top v cut → IsRow q cut
    → (top_link top (v t) ≡ q + 1)
    ⊎ ((s : Slot) × IsRow (row_with s) cut × IsIn has (row_with s) × (link_in v s ≡ q + 1))

-- A row that has a gap stands in a tree in Tree mode.
abbrev pub GapRowsTreeMode : Type 0
GapRowsTreeMode =
    (trees rows : ℕ) (c : Nodes) (mode : ℕ → Mode) (state : List TreeState) (f : Forest) (t q : ℕ) (g : Gap)
    → IsForest trees rows c mode state f → t < trees → GapIn c (f.tree t) q g → IsTree (mode t)

-- No held row of the pool leads back to itself along held rows, and a tree whose held anchor leads nowhere has no pairs.
abbrev pub NoneOfPoolIsReadBack : Type 0
NoneOfPoolIsReadBack =
    (has : ℕ → Bool) (v : Nodes) (trees rows : ℕ) (c : Nodes) (mode : ℕ → Mode) (state : List TreeState) (f : Forest) (q : ℕ)
    → IsForest trees rows c mode state f → Agrees (IsIn has) v c
    → Leads v (λ s. IsIn has (row_with s) × IsLinkOf (chain f.pool) s) q q → ⊥

abbrev pub EmptyTreeIsRead : Type 0
EmptyTreeIsRead =
    (has : ℕ → Bool) (v : Nodes) (trees rows : ℕ) (c : Nodes) (mode : ℕ → Mode) (state : List TreeState) (f : Forest) (t : ℕ)
    → IsForest trees rows c mode state f → Agrees (IsIn has) v c → IsIn has t → t < trees → IsTree (mode t) → (v t).left ≡ 0
    → (tree_at state t).pairs ≡ []
