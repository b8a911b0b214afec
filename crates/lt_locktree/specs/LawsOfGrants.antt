-- An ask that nobody else stands against, from what a search holds.
use Rattle.std.specs.Prelude.{◌≡◌, ℕ, ℤ, pos, ◌+ℤ◌, ◌+◌, ◌<◌, List, [], ◌∷◌, ◌++◌, map, length, take, drop, true, false, None}
use Rattle.lt_ranges.specs.Interval.{Interval, IsInterval}
use Rattle.lt_seq.specs.declared.event.Event.{Event}
use Rattle.lt_seq.specs.declared.event.Pair.{Pair}
use Rattle.lt_seq.specs.declared.event.Mode.TheVariants.{Tree as TreeMode}
use Rattle.lt_seq.specs.declared.event.Deed.TheVariants.{Ask}
use Rattle.lt_seq.specs.declared.event.Reply.TheVariants.{Granted}
use Rattle.lt_seq.specs.Pairs.{is_own, span}
use Rattle.lt_seq.specs.Table.{is_buffered}
use Rattle.lt_forest.specs.declared.part.PartRow.{PartRow}
use Rattle.lt_forest.specs.Bounds.{IsAbove, IsBelow}
use Rattle.lt_forest.specs.Items.{first_end, last_end}
use Rattle.lt_forest.specs.Pairs.{Has}
use Rattle.lt_forest.specs.Parts.{row_pair, numbers}
use Rattle.lt_forest.specs.Views.{IsIn, PlansOnly, PoolPlan}
use Rattle.lt_rows.specs.declared.image.RowImage.{RowImage}
use Rattle.lt_rows.specs.declared.view.View.{View}
use Rattle.lt_rows.specs.Nodes.{mode_of}
use Rattle.lt_rows.specs.Views.{has, images, planned_rows}
use Rattle.lt_rows.specs.Lawful.{shown, shown_after, IsCommit}
use Rattle.lt_tree.specs.Gathers.{IsLockedWith, IsClosed}
use Rattle.lt_locktree.specs.LawsOfFrees.{AreNumbersOf}
use Rattle.lt_locktree.specs.Relaid.{LaysPart}

-- The range has its place behind these rows and before those.
abbrev pub StandsBetween : Interval → List PartRow → List PartRow → Type 0
StandsBetween range ahead behind = IsAbove (last_end ahead None) range.left × IsBelow (first_end behind None) range.right

-- No buffer begins where the row that stays is the tree's anchor.
abbrev pub NoBufferBegins : View → ℕ → ℕ → ℕ → List PartRow → Type 0
NoBufferBegins v tree here txn rows =
    here ≡ tree → (score : ℕ) → mode_of (images v tree) ≡ TreeMode score
    → is_buffered v.plan.buffer txn (map row_pair rows) (TreeMode score) ≡ false

-- the first row of a run, with the span of the range and the run's ranges; and a row put in with the range
abbrev pub merged_row : ℕ → Interval → PartRow → List PartRow → PartRow
merged_row txn range r run = record { row = r.row; owner = txn; range = span txn range (map row_pair (r ∷ run)) }

abbrev pub new_row : ℕ → Interval → ℕ → PartRow
new_row txn range vacant = record { row = vacant; owner = txn; range = range }

-- Between the rows ahead and those behind all rows are the transaction's and overlap: the first of them gets the span of the range
-- and theirs, and the others are given to the pool. What hangs behind the first one of them and between them goes, as it is nothing.
abbrev pub MergedAskCommits : Type 0
MergedAskCommits =
    (v : View) (tree : ℕ) (asked : Interval) (here : ℕ) (ahead : List PartRow) (r : PartRow) (run behind : List PartRow)
    (hangs more given : List ℕ) (plan : List RowImage) (e : Event) (change : ℤ)
    (l : IsLockedWith v tree asked here (ahead ++ (r ∷ run ++ behind)) hangs more)
    → IsClosed asked (ahead ++ (r ∷ run ++ behind)) hangs → tree < v.plan.trees → IsInterval asked
    → StandsBetween asked ahead behind → ((p : Pair) → Has p (map row_pair (r ∷ run)) → is_own e.txn asked p ≡ true)
    → LaysPart v plan l.place here (ahead ++ merged_row e.txn asked r run ∷ behind)
    (take (length ahead + 1) hangs ++ drop (length ahead + 1 + length run) hangs)
    → AreNumbersOf run given → PoolPlan (IsIn (has v)) (planned_rows plan) v.plan.trees (shown v plan) (shown_after v plan) [] given
    → PlansOnly (here ∷ v.plan.trees ∷ numbers (ahead ++ (r ∷ run ++ behind))) (planned_rows plan)
    → e.pass + 1 ≡ v.mark → e.deed ≡ Ask tree asked Granted → change +ℤ pos (length run) ≡ pos 0
    → IsCommit v.plan v e plan change

-- No row overlaps: the first row of the pool is put in where the range has its place, with nothing hanging beside it.
abbrev pub PutInAskCommits : Type 0
PutInAskCommits =
    (v : View) (tree : ℕ) (asked : Interval) (here : ℕ) (ahead behind : List PartRow) (hangs more : List ℕ) (vacant : ℕ)
    (plan : List RowImage) (e : Event) (l : IsLockedWith v tree asked here (ahead ++ behind) hangs more)
    → IsClosed asked (ahead ++ behind) hangs → tree < v.plan.trees → IsInterval asked → StandsBetween asked ahead behind
    → NoBufferBegins v tree here e.txn (ahead ++ behind) → v.licensed ≡ true
    → LaysPart v plan l.place here (ahead ++ new_row e.txn asked vacant ∷ behind)
    (take (length ahead) hangs ++ 0 ∷ 0 ∷ drop (length ahead + 1) hangs)
    → PoolPlan (IsIn (has v)) (planned_rows plan) v.plan.trees (shown v plan) (shown_after v plan) (vacant ∷ []) []
    → PlansOnly (here ∷ v.plan.trees ∷ vacant ∷ numbers (ahead ++ behind)) (planned_rows plan)
    → e.pass + 1 ≡ v.mark → e.deed ≡ Ask tree asked Granted
    → IsCommit v.plan v e plan (pos 1)
