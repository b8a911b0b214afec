-- A tree's only row in a pass's view.
use Rattle.std.specs.Prelude.{◌≡◌, ◌≢◌, ℕ, ◌<◌, slice_index, Some, None}
use Rattle.lt_rows.specs.declared.row_plan.RowPlan.{RowPlan}
use Rattle.lt_rows.specs.declared.view.SeenGap.{SeenGap}
use Rattle.lt_rows.specs.declared.view.View.{View}
use Rattle.lt_rows.specs.declared.view.Row.{Row}
use Rattle.lt_rows.specs.declared.image.RowImage.{RowImage}
use Rattle.lt_rows.specs.Views.{Holds, row_at}

-- the gap of a tree's top row, below an anchor with this score
abbrev pub top_gap : ℕ → ℕ → SeenGap
top_gap tree score = record { tree = tree; low = None; high = None; score = score }

-- the row alone is held, with the gap of its tree's top row, its words are those that count and these, and nothing hangs below it
pub record HasOnly (k : RowPlan) (v : View) (tree : ℕ) (image : RowImage) : Type 0 where
  pub row : Row
  pub score : ℕ
  pub held : Holds v image.row row
  pub words : row.words ≡ image.words
  pub image_is : row.image ≡ image.words
  pub gap : row.gap ≡ Some (top_gap tree score)
  pub further : k.trees < image.row
  pub none_left : slice_index image.words 17 ≡ 0
  pub none_right : slice_index image.words 18 ≡ 0
  pub others : (r : ℕ) → r ≢ image.row → row_at v r ≡ None
