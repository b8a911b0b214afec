-- A part in which several rows of a transaction become one.
use Rattle.std.specs.Prelude.{◌≡◌, ℕ, ◌+◌, ◌-◌, List, [], ◌∷◌, ◌++◌, take, drop, reverse, slice_index}
use Rattle.lt_forest.specs.declared.part.Part.{Part}
use Rattle.lt_forest.specs.declared.part.PartRow.{PartRow}
use Rattle.lt_rows.specs.declared.image.RowImage.{RowImage}
use Rattle.lt_locktree.specs.declared.asking.Asking.{Asking}
use Rattle.lt_locktree.specs.Given.{IsChained, given_to}
use Rattle.lt_locktree.specs.LawsOfGrants.{merged_row}
use Rattle.lt_locktree.specs.PlannedParts.{PlansRows}

-- the rows behind the one at the start, up to the end
abbrev pub run_of : List PartRow → ℕ → ℕ → List PartRow
run_of rows start end = take (end - (start + 1)) (drop (start + 1) rows)

-- the row stands at the start, and the run behind it
abbrev pub IsRunAt : List PartRow → ℕ → ℕ → PartRow → Type 0
IsRunAt rows start end r = rows ≡ take start rows ++ (r ∷ run_of rows start end ++ drop end rows)

abbrev pub merged_rows : Asking → List PartRow → ℕ → ℕ → PartRow → List PartRow
merged_rows a rows start end r = take start rows ++ merged_row a.txn a.range r (run_of rows start end) ∷ drop end rows

abbrev pub merged_hangs : List ℕ → ℕ → ℕ → List ℕ
merged_hangs hangs start end = take (start + 1) hangs ++ drop end hangs

-- the part with one row from start to end
abbrev pub IsMerged : Asking → Part → ℕ → ℕ → Part → Type 0
IsMerged a part start end new =
    (r : PartRow) × IsRunAt part.rows.items start end r
    × (new.rows.items ≡ merged_rows a part.rows.items start end r) × (new.hangs.items ≡ merged_hangs part.hangs.items start end)

-- the plan by which the others of them are put to the front of the pool, and the part is laid out anew
pub record PlansMerged (a : Asking) (stays pool : RowImage) (part : Part) (start end : ℕ) (plan : List RowImage) : Type 0 where
  pub r : PartRow
  pub run_at : IsRunAt part.rows.items start end r
  pub link : ℕ
  pub given : List RowImage
  pub chained : IsChained given link (reverse (run_of part.rows.items start end)) (slice_index pool.words 17)
  pub plans : PlansRows a.tree a.range stays (given ++ given_to pool link ∷ []) plan (merged_rows a part.rows.items start end r)
      (merged_hangs part.hangs.items start end)
