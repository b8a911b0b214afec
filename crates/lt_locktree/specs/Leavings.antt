-- A part from which a transaction's rows are left out.
use Rattle.std.specs.Prelude.{◌≡◌, ℕ, ◌+◌, ◌<◌, List, [], ◌∷◌, ◌++◌, length, Bool, not, ◌&&◌, nat_lt, if◌then◌else◌, reverse, slice_index, slice_set}
use Rattle.lt_ranges.specs.Interval.{Interval}
use Rattle.lt_forest.specs.declared.part.PartRow.{PartRow}
use Rattle.lt_forest.specs.Items.{LeavesOut}
use Rattle.lt_rows.specs.declared.image.RowImage.{RowImage}
use Rattle.lt_locktree.specs.Given.{IsChained, given_to}
use Rattle.lt_locktree.specs.PlannedParts.{PlansRows}
use Rattle.lt_locktree.specs.declared.leaving.LeftOut.{LeftOut}
use Rattle.lt_locktree.specs.declared.leaving.Leaving.{Leaving}
use Rattle.lt_locktree.specs.declared.leaving.Leaving.TheVariants.{Left, Meets}
use Rattle.lt_locktree.specs.LawsOfFrees.{goes, freed_rows}

-- the rows that stay, with what hangs between them, and those that go
pub record IsLeftOut (txn : ℕ) (range : Interval) (rows : List PartRow) (hangs : List ℕ) (left : LeftOut) : Type 0 where
  pub left_out : LeavesOut (λ r. not (goes txn range r)) rows hangs left.part.rows.items left.part.hangs.items
  pub gone_are : left.gone.items ≡ freed_rows txn range rows

abbrev pub IsLeaving : ℕ → Interval → List PartRow → List ℕ → Leaving → Type 0
IsLeaving txn range rows hangs (Left left) = IsLeftOut txn range rows hangs left
IsLeaving txn range rows hangs (Meets at) = (at < length hangs) × (0 < slice_index hangs at)

-- the row that stays, as an anchor with the score that a free leaves
abbrev pub scored : Bool → RowImage → RowImage
scored first stays = record {
  row = stays.row;
  words = slice_set stays.words 19
      (if first && nat_lt (slice_index stays.words 19) 100 then slice_index stays.words 19 + 1 else slice_index stays.words 19);
}

-- the plan by which the rows that go are put to the front of the pool, and the others are laid out anew
pub record PlansFreed (tree : ℕ) (range : Interval) (stays pool : RowImage) (left : LeftOut) (plan : List RowImage) : Type 0 where
  pub link : ℕ
  pub chained : List RowImage
  pub chained_is : IsChained chained link (reverse left.gone.items) (slice_index pool.words 17)
  pub plans : PlansRows tree range stays (chained ++ given_to pool link ∷ []) plan left.part.rows.items left.part.hangs.items
