-- The plan of a free, as it is made, from what a search holds.
use Rattle.std.specs.Prelude.{◌≡◌, ℕ, ℤ, pos, ◌+ℤ◌, ◌+◌, ◌<◌, List, [], ◌∷◌, ◌++◌, map, Bool, not, reverse, slice_index}
use Rattle.lt_ranges.specs.Interval.{Interval, IsInterval}
use Rattle.lt_seq.specs.declared.event.Event.{Event}
use Rattle.lt_seq.specs.declared.event.Deed.TheVariants.{Free}
use Rattle.lt_seq.specs.Pairs.{count_freed}
use Rattle.lt_seq.specs.Table.{raised}
use Rattle.lt_forest.specs.declared.part.PartRow.{PartRow}
use Rattle.lt_forest.specs.Counts.{times}
use Rattle.lt_forest.specs.Parts.{row_pair}
use Rattle.lt_forest.specs.Items.{LeavesOut}
use Rattle.lt_rows.specs.declared.image.RowImage.{RowImage}
use Rattle.lt_rows.specs.declared.view.View.{View}
use Rattle.lt_rows.specs.Lawful.{mode_before, IsCommit}
use Rattle.lt_rows.specs.Nodes.{mode_of}
use Rattle.lt_tree.specs.Gathers.{Place, below_top, on_left, on_right, IsLockedWith, IsClosed}
use Rattle.lt_locktree.specs.PlannedParts.{PlansRows, IsLoaded, ShowsRow}
use Rattle.lt_locktree.specs.LawsOfFrees.{goes, freed_rows, KeepsScore}
use Rattle.lt_locktree.specs.Given.{IsChained, given_to}

-- an anchor's image has the score that a free leaves
abbrev pub RaisesImage : View → ℕ → RowImage → Bool → Place → Type 0
RaisesImage v tree stays first below_top = mode_of stays.words ≡ raised first (mode_before v [] tree)
RaisesImage v tree stays first on_left = Unit {0}
RaisesImage v tree stays first on_right = Unit {0}

-- The plan has the rows that go, of which the pool's anchor leads to the last one and so on, that anchor, the part's rows that stay, and
-- the row from which they hang. Where that is the tree's anchor, its score rises as far as it is to.
abbrev pub FreePlanCommits : Type 0
FreePlanCommits =
    (v : View) (tree : ℕ) (asked : Interval) (here : ℕ) (rows rows' : List PartRow) (hangs hangs' more : List ℕ)
    (stays pool : RowImage) (chained plan : List RowImage) (link : ℕ) (first : Bool) (e : Event) (change : ℤ)
    (l : IsLockedWith v tree asked here rows hangs more)
    → IsClosed asked rows hangs → tree < v.plan.trees → IsInterval asked → KeepsScore l.place first l.score → RaisesImage v tree stays first l.place
    → LeavesOut (λ r. not (goes e.txn asked r)) rows hangs rows' hangs'
    → 0 < times v.plan.trees more → ShowsRow v here stays → IsLoaded v v.plan.trees pool
    → IsChained chained link (reverse (freed_rows e.txn asked rows)) (slice_index pool.words 17)
    → PlansRows tree asked stays (chained ++ given_to pool link ∷ []) plan rows' hangs'
    → e.pass + 1 ≡ v.mark → e.deed ≡ Free tree asked first (count_freed e.txn asked (map row_pair rows))
    → change +ℤ pos (count_freed e.txn asked (map row_pair rows)) ≡ pos 0
    → IsCommit v.plan v e plan change
