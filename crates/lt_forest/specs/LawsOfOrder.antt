-- What is true of parts in key order, so that a plan can be made from its rows and hangs alone.
use Rattle.std.specs.Prelude.{◌≡◌, ℕ, ◌+◌, List, [], ◌∷◌, ◌++◌, map, filter, length, replicate, None, Bool, true, false, not, ◌⊎◌}
use Rattle.lt_ranges.specs.Interval.{Interval, IsInterval, before}
use Rattle.lt_seq.specs.declared.event.Pair.{Pair}
use Rattle.lt_seq.specs.Pairs.{IsLawful, is_own, others, freed, count_freed, span, granted}
use Rattle.lt_forest.specs.Pairs.{Has}
use Rattle.lt_forest.specs.declared.part.PartRow.{PartRow}
use Rattle.lt_forest.specs.declared.part.Placed.{Placed}
use Rattle.lt_forest.specs.Bounds.{Bound, IsAbove, IsBelow}
use Rattle.lt_forest.specs.Trees.{Nodes, pairs_in}
use Rattle.lt_forest.specs.Cuts.{Cut, Shows, bare, ends, Looser, AllAside}
use Rattle.lt_forest.specs.Parts.{rows_of, hangs_of, row_pair, numbers, hanging}
use Rattle.lt_forest.specs.Items.{Item, items, rows_only, first_end, last_end, between, sift, LeavesOut, Ascends, MayMerge}
use Rattle.lt_forest.specs.Layouts.{IsLaid, HoldsPlaced}
use Rattle.lt_forest.specs.Plans.{Top, IsClosedFor, SameRows}
use Rattle.lt_forest.specs.Widenings.{Widens}

-- the links that hang, and their bounds, are those between the rows in key order
abbrev pub EndsAreHanging : Type 0
EndsAreHanging = (c : Nodes) (cut : Cut) (x y : Bound) → ends c cut x y ≡ hanging (rows_of c cut) (hangs_of cut) x y

abbrev pub EndsAreBetween : Type 0
EndsAreBetween = (c : Nodes) (cut : Cut) → ends c cut None None ≡ between (items (rows_of c cut) (hangs_of cut)) None None

-- cuts of the same rows and hangs in key order leave all bounds, rows and pairs as they are
abbrev pub SameOrderKeeps : Type 0
SameOrderKeeps =
    (c d : Nodes) (cut new : Cut) → rows_of d new ≡ rows_of c cut → hangs_of new ≡ hangs_of cut
    → Looser (ends c cut None None) (ends d new None None) × SameRows cut new [] []
    × (pairs_in d (bare new) ≡ pairs_in c (bare cut))

-- where rows are left out, no bound gets tighter
abbrev pub LeavingOutLoosens : Type 0
LeavingOutLoosens =
    (keep : PartRow → Bool) (is : List Item) → Ascends None is → Looser (between is None None) (between (sift keep is) None None)

-- so that a free may leave rows out one by one, from the first to the last: a row is kept with the link behind it,
abbrev pub NoneIsLeftOut : Type 0
NoneIsLeftOut = (keep : PartRow → Bool) (l : ℕ) → LeavesOut keep [] (l ∷ []) [] (l ∷ [])

abbrev pub OneIsKept : Type 0
OneIsKept =
    (keep : PartRow → Bool) (rows rows' : List PartRow) (hangs hangs' : List ℕ) (r : PartRow) (m : ℕ)
    → LeavesOut keep rows hangs rows' hangs' → keep r ≡ true
    → LeavesOut keep (rows ++ r ∷ []) (hangs ++ m ∷ []) (rows' ++ r ∷ []) (hangs' ++ m ∷ [])

-- or left out, where the link before it or the one behind it is 0, and the other stays;
abbrev pub OneIsLeftOut : Type 0
OneIsLeftOut =
    (keep : PartRow → Bool) (rows rows' : List PartRow) (hangs hs : List ℕ) (l : ℕ) (r : PartRow) (m : ℕ)
    → LeavesOut keep rows hangs rows' (hs ++ l ∷ []) → keep r ≡ false → (l ≡ 0) ⊎ (m ≡ 0)
    → LeavesOut keep (rows ++ r ∷ []) (hangs ++ m ∷ []) rows' (hs ++ (l + m) ∷ [])

-- then no bound is tighter, and the new part shows what was not freed,
abbrev pub LeftOutLoosens : Type 0
LeftOutLoosens =
    (keep : PartRow → Bool) (c d : Nodes) (cut new : Cut) → IsLawful (pairs_in c (bare cut))
    → LeavesOut keep (rows_of c cut) (hangs_of cut) (rows_of d new) (hangs_of new)
    → Looser (ends c cut None None) (ends d new None None)

abbrev pub LeftOutIsFreed : Type 0
LeftOutIsFreed =
    (txn : ℕ) (range : Interval) (c d : Nodes) (cut new : Cut)
    → LeavesOut (λ r. not (is_own txn range (row_pair r))) (rows_of c cut) (hangs_of cut) (rows_of d new) (hangs_of new)
    → pairs_in d (bare new) ≡ freed txn range (pairs_in c (bare cut))

-- and none where a run of rows becomes one, if all that hangs is aside of the range
abbrev pub MergingLoosens : Type 0
MergingLoosens =
    (range : Interval) (ahead : List Item) (run : List PartRow) (behind : List Item) (one : PartRow)
    → MayMerge range ahead run behind one → AllAside range (between (ahead ++ (rows_only run ++ behind)) None None)
    → Looser (between (ahead ++ (rows_only run ++ behind)) None None) (between (ahead ++ (rows_only (one ∷ []) ++ behind)) None None)

-- One row may stand for a run of rows where its range is the span of the asked one and the run's, between rows that end before the
-- range and rows that begin behind it.
abbrev pub SpanMayMerge : Type 0
SpanMayMerge =
    (txn : ℕ) (range : Interval) (ahead run behind : List PartRow) (one : PartRow)
    → IsInterval range → IsLawful (map row_pair run) → IsAbove (last_end ahead None) range.left
    → IsBelow (first_end behind None) range.right → one.range ≡ span txn range (map row_pair run)
    → MayMerge range (rows_only ahead) run (rows_only behind) one

-- In a closed part a run between whose rows nothing hangs may become that one row, with the links around it as they are,
abbrev pub MergedRunLoosens : Type 0
MergedRunLoosens =
    (c d : Nodes) (top : Top) (cut new : Cut) (range : Interval) (ahead : List PartRow) (r : PartRow) (run behind : List PartRow)
    (one : PartRow) (ls ms : List ℕ)
    → IsClosedFor range top c cut → MayMerge range (rows_only ahead) (r ∷ run) (rows_only behind) one
    → rows_of c cut ≡ ahead ++ (r ∷ run ++ behind) → hangs_of cut ≡ ls ++ (replicate (length run) 0 ++ ms)
    → length ls ≡ length ahead + 1 → rows_of d new ≡ ahead ++ one ∷ behind → hangs_of new ≡ ls ++ ms
    → Looser (ends c cut None None) (ends d new None None)

-- and shows the ask's grant where the run is all that overlaps, and the transaction's,
abbrev pub MergedRunIsGranted : Type 0
MergedRunIsGranted =
    (txn : ℕ) (range : Interval) (ahead run behind : List PartRow) (one : PartRow)
    → IsInterval range → IsLawful (map row_pair (ahead ++ (run ++ behind))) → IsAbove (last_end ahead None) range.left
    → IsBelow (first_end behind None) range.right → ((p : Pair) → Has p (map row_pair run) → is_own txn range p ≡ true)
    → one.owner ≡ txn → one.range ≡ span txn range (map row_pair run)
    → (others txn range (map row_pair (ahead ++ (run ++ behind))) ≡ [])
    × (granted txn range (map row_pair (ahead ++ (run ++ behind))) ≡ map row_pair (ahead ++ one ∷ behind))

-- and where the range overlaps no row, a row may be put in where it has its place.
abbrev pub PutInLoosens : Type 0
PutInLoosens =
    (c d : Nodes) (top : Top) (cut new : Cut) (range : Interval) (ahead behind : List PartRow) (one : PartRow) (ls ms : List ℕ)
    → IsClosedFor range top c cut → MayMerge range (rows_only ahead) [] (rows_only behind) one
    → rows_of c cut ≡ ahead ++ behind → hangs_of cut ≡ ls ++ 0 ∷ ms → length ls ≡ length ahead
    → rows_of d new ≡ ahead ++ one ∷ behind → hangs_of new ≡ ls ++ 0 ∷ 0 ∷ ms
    → Looser (ends c cut None None) (ends d new None None)

-- Each row stands in the new part or is given: the rows of a run that become one but for the first, in whose place the one stands,
abbrev pub MergedRunKeepsRows : Type 0
MergedRunKeepsRows =
    (c d : Nodes) (cut new : Cut) (ahead : List PartRow) (r : PartRow) (run behind : List PartRow) (one : PartRow)
    → rows_of c cut ≡ ahead ++ (r ∷ run ++ behind) → rows_of d new ≡ ahead ++ one ∷ behind → one.row ≡ r.row
    → SameRows cut new [] (numbers run)

-- the row that is put in, which is taken from the pool,
abbrev pub PutInKeepsRows : Type 0
PutInKeepsRows =
    (c d : Nodes) (cut new : Cut) (ahead behind : List PartRow) (one : PartRow)
    → rows_of c cut ≡ ahead ++ behind → rows_of d new ≡ ahead ++ one ∷ behind → SameRows cut new (one.row ∷ []) []

-- and those that are left out.
abbrev pub LeftOutKeepsRows : Type 0
LeftOutKeepsRows =
    (keep : PartRow → Bool) (c d : Nodes) (cut new : Cut)
    → LeavesOut keep (rows_of c cut) (hangs_of cut) (rows_of d new) (hangs_of new)
    → SameRows cut new [] (numbers (filter (λ r. not (keep r)) (rows_of c cut)))

-- the pairs of a cut are those of its rows
abbrev pub RowsShowPairs : Type 0
RowsShowPairs = (c : Nodes) (cut : Cut) → map row_pair (rows_of c cut) ≡ pairs_in c (bare cut)

-- the top row of what hangs at a place may be taken into the part
abbrev pub PartWidens : Type 0
PartWidens =
    (c : Nodes) (link : ℕ) (cut : Cut) (r : ℕ) (before behind : List ℕ) → Shows c link cut
    → hangs_of cut ≡ before ++ (r + 1) ∷ behind → Widens c link cut r before behind

-- rows that hold what was laid out show it
abbrev pub PlacedShows : Type 0
PlacedShows =
    (d : Nodes) (placed : List Placed) (link : ℕ) (cut : Cut) → HoldsPlaced d placed → IsLaid placed link cut → Shows d link cut

-- What asks and frees make of a list of which all before the middle ends before the range, and all behind it begins behind it:
-- they see and change the middle alone.
pub record StepsInTheMiddle (txn : ℕ) (range : Interval) (xs ys zs : List Pair) : Type 0 where
  pub same_others : others txn range (xs ++ (ys ++ zs)) ≡ others txn range ys
  pub same_count : count_freed txn range (xs ++ (ys ++ zs)) ≡ count_freed txn range ys
  pub new_freed : freed txn range (xs ++ (ys ++ zs)) ≡ xs ++ (freed txn range ys ++ zs)
  pub new_granted : granted txn range (xs ++ (ys ++ zs)) ≡ xs ++ (granted txn range ys ++ zs)

abbrev pub MiddleDecides : Type 0
MiddleDecides =
    (txn : ℕ) (range : Interval) (xs ys zs : List Pair) → IsLawful (xs ++ (ys ++ zs)) → IsInterval range
    → ((p : Pair) → Has p xs → before p.range range ≡ true) → ((p : Pair) → Has p zs → before range p.range ≡ true)
    → StepsInTheMiddle txn range xs ys zs

-- where all of a list is the transaction's and overlaps, one pair stays of it
abbrev pub OwnBecomeOne : Type 0
OwnBecomeOne =
    (txn : ℕ) (range : Interval) (ys : List Pair) → ((p : Pair) → Has p ys → is_own txn range p ≡ true)
    → granted txn range ys ≡ record { owner = txn; range = span txn range ys } ∷ []
