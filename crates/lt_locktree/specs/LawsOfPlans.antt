-- The plans of granted asks, as they are made, from what a search holds.
use Rattle.std.specs.Prelude.{◌≡◌, ℕ, ℤ, pos, ◌+ℤ◌, ◌+◌, ◌<◌, List, [], ◌∷◌, ◌++◌, map, length, take, drop, true, reverse, slice_index, slice_set}
use Rattle.lt_ranges.specs.Interval.{Interval, IsInterval}
use Rattle.lt_seq.specs.declared.event.Event.{Event}
use Rattle.lt_seq.specs.declared.event.Deed.TheVariants.{Ask}
use Rattle.lt_seq.specs.declared.event.Reply.TheVariants.{Granted}
use Rattle.lt_seq.specs.declared.event.Pair.{Pair}
use Rattle.lt_seq.specs.Pairs.{is_own}
use Rattle.lt_forest.specs.declared.part.PartRow.{PartRow}
use Rattle.lt_forest.specs.Counts.{times}
use Rattle.lt_forest.specs.Pairs.{Has}
use Rattle.lt_forest.specs.Parts.{row_pair}
use Rattle.lt_rows.specs.declared.image.RowImage.{RowImage}
use Rattle.lt_rows.specs.declared.view.View.{View}
use Rattle.lt_rows.specs.Lawful.{IsCommit}
use Rattle.lt_tree.specs.Gathers.{IsLockedWith, IsClosed}
use Rattle.lt_locktree.specs.Given.{IsChained, given_to}
use Rattle.lt_locktree.specs.PlannedParts.{PlansRows, IsLoaded}
use Rattle.lt_locktree.specs.LawsOfGrants.{StandsBetween, NoBufferBegins, merged_row, new_row}

-- One row of the transaction overlaps, and gets the hull: the plan has the part's rows and the row that stays.
abbrev pub GrownPlanCommits : Type 0
GrownPlanCommits =
    (v : View) (tree : ℕ) (asked : Interval) (here : ℕ) (ahead : List PartRow) (r : PartRow) (behind : List PartRow)
    (hangs more : List ℕ) (stays : RowImage) (plan : List RowImage) (e : Event)
    → IsLockedWith v tree asked here (ahead ++ r ∷ behind) hangs more
    → IsClosed asked (ahead ++ r ∷ behind) hangs → tree < v.plan.trees → IsInterval asked
    → StandsBetween asked ahead behind → is_own e.txn asked (row_pair r) ≡ true → IsLoaded v here stays
    → PlansRows tree asked stays [] plan (ahead ++ merged_row e.txn asked r [] ∷ behind) hangs
    → e.pass + 1 ≡ v.mark → e.deed ≡ Ask tree asked Granted
    → IsCommit v.plan v e plan (pos 0)

-- the pool's anchor leads on to the row behind its first one
abbrev pub taken_from : RowImage → RowImage → RowImage
taken_from pool vacant = record { row = pool.row; words = slice_set pool.words 17 (slice_index vacant.words 17) }

-- No row overlaps: the plan has the pool's anchor besides, and among the part's rows the first one of the pool.
abbrev pub PutInPlanCommits : Type 0
PutInPlanCommits =
    (v : View) (tree : ℕ) (asked : Interval) (here : ℕ) (ahead behind : List PartRow) (hangs more : List ℕ)
    (stays pool vacant : RowImage) (plan : List RowImage) (e : Event)
    → IsLockedWith v tree asked here (ahead ++ behind) hangs more
    → IsClosed asked (ahead ++ behind) hangs → tree < v.plan.trees → IsInterval asked
    → StandsBetween asked ahead behind → NoBufferBegins v tree here e.txn (ahead ++ behind) → v.licensed ≡ true
    → 0 < times v.plan.trees more → 0 < times vacant.row more → slice_index pool.words 17 ≡ vacant.row + 1
    → IsLoaded v here stays → IsLoaded v v.plan.trees pool → IsLoaded v vacant.row vacant
    → PlansRows tree asked stays (taken_from pool vacant ∷ []) plan (ahead ++ new_row e.txn asked vacant.row ∷ behind)
    (take (length ahead) hangs ++ 0 ∷ 0 ∷ drop (length ahead + 1) hangs)
    → e.pass + 1 ≡ v.mark → e.deed ≡ Ask tree asked Granted
    → IsCommit v.plan v e plan (pos 1)

-- Several rows of the transaction overlap: the first one gets the span, and the others are given to the front of the pool.
abbrev pub MergedPlanCommits : Type 0
MergedPlanCommits =
    (v : View) (tree : ℕ) (asked : Interval) (here : ℕ) (ahead : List PartRow) (r : PartRow) (run behind : List PartRow)
    (hangs more : List ℕ) (stays pool : RowImage) (given : List RowImage) (link : ℕ) (plan : List RowImage) (e : Event) (change : ℤ)
    → IsLockedWith v tree asked here (ahead ++ (r ∷ run ++ behind)) hangs more
    → IsClosed asked (ahead ++ (r ∷ run ++ behind)) hangs → tree < v.plan.trees → IsInterval asked
    → StandsBetween asked ahead behind → ((p : Pair) → Has p (map row_pair (r ∷ run)) → is_own e.txn asked p ≡ true)
    → 0 < times v.plan.trees more → IsLoaded v here stays → IsLoaded v v.plan.trees pool
    → IsChained given link (reverse run) (slice_index pool.words 17)
    → PlansRows tree asked stays (given ++ given_to pool link ∷ []) plan (ahead ++ merged_row e.txn asked r run ∷ behind)
    (take (length ahead + 1) hangs ++ drop (length ahead + 1 + length run) hangs)
    → e.pass + 1 ≡ v.mark → e.deed ≡ Ask tree asked Granted → change +ℤ pos (length run) ≡ pos 0
    → IsCommit v.plan v e plan change
