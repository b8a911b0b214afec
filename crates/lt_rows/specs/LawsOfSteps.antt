-- What a pass's view has of a row after a step.
use Rattle.std.specs.Prelude.{◌≡◌, ◌≢◌, ℕ, List, None, slice_index_or, drop}
use Rattle.lt_seq.specs.declared.event.Event.{Event}
use Rattle.lt_forest.specs.Counts.{times}
use Rattle.lt_rows.specs.declared.image.RowImage.{RowImage}
use Rattle.lt_rows.specs.declared.view.Row.{Row}
use Rattle.lt_rows.specs.declared.view.View.{View}
use Rattle.lt_rows.specs.declared.take.Take.TheVariants.{Taken}
use Rattle.lt_rows.specs.Views.{Holds, row_at, with_row, written, images, committed, settled, planned_contents, planned_rows}
use Rattle.lt_rows.specs.Gaps.{gap_for, new_gaps}
use Rattle.lt_rows.specs.Handles.{Tries, IsGathering}
use Rattle.lt_rows.specs.Teaching.{Teaches}

-- A taken row is held, with its words as those that count and the gap that the held rows give it; the other rows stay.
abbrev pub TakenRowIsHeld : Type 0
TakenRowIsHeld =
    (r : ℕ) (v w : View) (t : Tries r v w Taken)
    → Holds w r record { words = t.0; image = t.0; gap = gap_for v r } × ((q : ℕ) → q ≢ r → row_at w q ≡ row_at v q)

-- A written row has the words, and what counts of it stays.
abbrev pub WrittenRowIsStored : Type 0
WrittenRowIsStored =
    (r : ℕ) (v w : View) (row : Row) (words : List ℕ) → Holds v r row → w ≡ with_row v r (written (row_at v r) words)
    → Holds w r record row { words = words } × ((q : ℕ) → q ≢ r → row_at w q ≡ row_at v q)

-- A row that is given back is held no more, the others stay, and what was taught of them still holds.
abbrev pub PutRowIsGone : Type 0
PutRowIsGone =
    (r : ℕ) (v w : View) (row : Row) → Holds v r row → w ≡ with_row v r None
    → (row_at w r ≡ None) × ((q : ℕ) → q ≢ r → row_at w q ≡ row_at v q) × (Teaches v → Teaches w)

-- After a commit a held row has its words, the plan's image, and no gap.
abbrev pub CommittedRowHasImage : Type 0
CommittedRowHasImage =
    (v : View) (plan : List RowImage) (front : List Event) (r : ℕ) (row : Row) → Holds v r row
    → Holds (committed v plan front) r record { words = row.words; image = planned_contents (images v) plan r; gap = None }

-- After a settle it has its words, the plan's image, and the gap that is taken anew; its own, where no image but the first is its.
abbrev pub SettledRowHasImage : Type 0
SettledRowHasImage =
    (v : View) (plan : List RowImage) (front : List Event) (r : ℕ) (row : Row) → Holds v r row
    → Holds (settled v plan (new_gaps v plan) front) r record {
      words = row.words;
      image = planned_contents (images v) plan r;
      gap = slice_index_or (new_gaps v plan) r None;
    }

abbrev pub UnplannedRowKeepsGap : Type 0
UnplannedRowKeepsGap =
    (v : View) (plan : List RowImage) (r : ℕ) (row : Row) → Holds v r row → times r (planned_rows (drop 1 plan)) ≡ 0
    → slice_index_or (new_gaps v plan) r None ≡ row.gap

-- A pass that gathers, and takes a row or gives one back, gathers still.
abbrev pub GatheringIsKept : Type 0
GatheringIsKept =
    (r : ℕ) (v w : View) → IsGathering v
    → (Tries r v w Taken → IsGathering w) × ((row : Row) → Holds v r row → w ≡ with_row v r None → IsGathering w)
