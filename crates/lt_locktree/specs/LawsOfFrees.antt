-- A free, from what a search holds.
use Rattle.std.specs.Prelude.{◌≡◌, ◌⊎◌, ℕ, ℤ, pos, ◌+ℤ◌, ◌+◌, ◌<◌, List, [], ◌∷◌, map, filter, length, Bool, false, not}
use Rattle.lt_ranges.specs.Interval.{Interval, IsInterval}
use Rattle.lt_seq.specs.declared.event.Event.{Event}
use Rattle.lt_seq.specs.declared.event.Deed.TheVariants.{Free}
use Rattle.lt_seq.specs.Pairs.{is_own, count_freed}
use Rattle.lt_seq.specs.Table.{raised}
use Rattle.lt_forest.specs.declared.part.PartRow.{PartRow}
use Rattle.lt_forest.specs.Counts.{times}
use Rattle.lt_forest.specs.Parts.{row_pair, numbers}
use Rattle.lt_forest.specs.Items.{LeavesOut}
use Rattle.lt_forest.specs.Views.{IsIn, PlansOnly, PoolPlan}
use Rattle.lt_rows.specs.declared.image.RowImage.{RowImage}
use Rattle.lt_rows.specs.declared.view.View.{View}
use Rattle.lt_rows.specs.Views.{has, planned_rows}
use Rattle.lt_rows.specs.Lawful.{shown, shown_after, mode_before, mode_after, IsCommit}
use Rattle.lt_tree.specs.Gathers.{Place, below_top, on_left, on_right, IsLockedWith, IsClosed}
use Rattle.lt_locktree.specs.RelaidRows.{LaysRows}

-- whether a free takes the row out of its tree
abbrev pub goes : ℕ → Interval → PartRow → Bool
goes txn range r = is_own txn range (row_pair r)

abbrev pub freed_rows : ℕ → Interval → List PartRow → List PartRow
freed_rows txn range rows = filter (goes txn range) rows

-- Where the anchor isn't held, the tree's score mustn't rise: the free is no release's first one, or the score is 100.
abbrev pub KeepsScore : Place → Bool → ℕ → Type 0
KeepsScore below_top first score = Unit {0}
KeepsScore on_left first score = (first ≡ false) ⊎ (score ≡ 100)
KeepsScore on_right first score = (first ≡ false) ⊎ (score ≡ 100)

-- the anchor, where it is held, gets the score that a free leaves
abbrev pub RaisesAnchor : View → List RowImage → ℕ → Bool → Place → Type 0
RaisesAnchor v plan tree first below_top = mode_after v plan tree ≡ raised first (mode_before v plan tree)
RaisesAnchor v plan tree first on_left = Unit {0}
RaisesAnchor v plan tree first on_right = Unit {0}

-- these are the numbers of the rows, in any order
pub record AreNumbersOf (rows : List PartRow) (given : List ℕ) : Type 0 where
  pub each : (q : ℕ) → times q given ≡ times q (numbers rows)
  pub all : length given ≡ length rows

-- The rows of the transaction that overlap are left out of the part, of each two links that come to stand side by side one is 0, and
-- the rows go to the pool.
abbrev pub FreeCommits : Type 0
FreeCommits =
    (v : View) (tree : ℕ) (asked : Interval) (here : ℕ) (rows rows' : List PartRow) (hangs hangs' more given : List ℕ)
    (first : Bool) (plan : List RowImage) (e : Event) (change : ℤ) (l : IsLockedWith v tree asked here rows hangs more)
    → IsClosed asked rows hangs → tree < v.plan.trees → IsInterval asked → KeepsScore l.place first l.score
    → LeavesOut (λ r. not (goes e.txn asked r)) rows hangs rows' hangs'
    → LaysRows v plan l.place here rows' hangs' → RaisesAnchor v plan tree first l.place
    → AreNumbersOf (freed_rows e.txn asked rows) given
    → PoolPlan (IsIn (has v)) (planned_rows plan) v.plan.trees (shown v plan) (shown_after v plan) [] given
    → PlansOnly (here ∷ v.plan.trees ∷ numbers rows) (planned_rows plan)
    → e.pass + 1 ≡ v.mark → e.deed ≡ Free tree asked first (count_freed e.txn asked (map row_pair rows))
    → change +ℤ pos (count_freed e.txn asked (map row_pair rows)) ≡ pos 0
    → IsCommit v.plan v e plan change

-- Where none of them overlaps and no score rises, nothing changes.
abbrev pub NoneFreedCommits : Type 0
NoneFreedCommits =
    (v : View) (tree : ℕ) (asked : Interval) (here : ℕ) (rows : List PartRow) (hangs more : List ℕ) (first : Bool) (e : Event)
    (l : IsLockedWith v tree asked here rows hangs more)
    → IsClosed asked rows hangs → tree < v.plan.trees → IsInterval asked → (first ≡ false) ⊎ (l.score ≡ 100)
    → freed_rows e.txn asked rows ≡ [] → e.pass + 1 ≡ v.mark → e.deed ≡ Free tree asked first 0
    → IsCommit v.plan v e [] (pos 0)
