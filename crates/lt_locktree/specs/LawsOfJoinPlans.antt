-- The plan of a join, as it is made, from what a search holds that keeps the anchor.
use Rattle.std.specs.Prelude.{◌≡◌, ℕ, ℤ, pos, ◌+ℤ◌, ◌+◌, ◌<◌, List, [], ◌∷◌, ◌++◌, map, length, replicate, reverse, slice_index}
use Rattle.lt_ranges.specs.Interval.{whole}
use Rattle.lt_seq.specs.declared.event.Event.{Event}
use Rattle.lt_seq.specs.declared.event.Deed.TheVariants.{Join}
use Rattle.lt_seq.specs.Pairs.{joined}
use Rattle.lt_forest.specs.declared.part.PartRow.{PartRow}
use Rattle.lt_forest.specs.Counts.{times}
use Rattle.lt_forest.specs.Parts.{row_pair, numbers}
use Rattle.lt_rows.specs.declared.image.RowImage.{RowImage}
use Rattle.lt_rows.specs.declared.view.View.{View}
use Rattle.lt_rows.specs.Lawful.{mode_before, IsCommit}
use Rattle.lt_rows.specs.Nodes.{mode_of}
use Rattle.lt_tree.specs.Gathers.{below_top, IsLockedWith, IsClosed}
use Rattle.lt_locktree.specs.PlannedParts.{PlansRows, IsLoaded, ShowsRow}
use Rattle.lt_locktree.specs.Given.{IsChained, given_to}
use Rattle.lt_locktree.specs.LawsOfJoins.{StayOrGo}

-- The plan has the rows that go, of which the pool's anchor leads to the last one and so on, that anchor, the rows that stay, and the
-- tree's anchor, whose score stays.
abbrev pub JoinPlanCommits : Type 0
JoinPlanCommits =
    (v : View) (tree here : ℕ) (rows rows' gone : List PartRow) (more : List ℕ)
    (stays pool : RowImage) (chained plan : List RowImage) (link : ℕ) (e : Event) (change : ℤ)
    (l : IsLockedWith v tree whole here rows (replicate (length rows + 1) 0) more)
    → IsClosed whole rows (replicate (length rows + 1) 0) → tree < v.plan.trees → l.place ≡ below_top
    → mode_of stays.words ≡ mode_before v [] tree
    → map row_pair rows' ≡ joined v.plan.marks (map row_pair rows) → StayOrGo rows rows' (numbers gone)
    → 0 < times v.plan.trees more → ShowsRow v here stays → IsLoaded v v.plan.trees pool
    → IsChained chained link (reverse gone) (slice_index pool.words 17)
    → PlansRows tree whole stays (chained ++ given_to pool link ∷ []) plan rows' (replicate (length rows' + 1) 0)
    → e.pass + 1 ≡ v.mark → e.deed ≡ Join tree (length rows) (length rows') → change +ℤ pos (length gone) ≡ pos 0
    → IsCommit v.plan v e plan change
