-- Rows that a search settles and stores, and goes on.
use Rattle.std.specs.Prelude.{◌≡◌, ℕ, List, [], ◌∷◌, length, drop, slice_index_or, None}
use Rattle.lt_forest.specs.Counts.{times}
use Rattle.lt_rows.specs.declared.view.View.{View}
use Rattle.lt_rows.specs.declared.image.RowImage.{RowImage}
use Rattle.lt_rows.specs.Views.{IsHeld, row_at, has, images, gap_of, planned_contents, planned_rows}
use Rattle.lt_rows.specs.Gaps.{new_gaps}
use Rattle.lt_rows.specs.Handles.{IsGathering}
use Rattle.lt_rows.specs.Teaching.{Teaches}
use Rattle.lt_tree.specs.States.{SeesOn, HasWords}

-- these rows are held, with these words
abbrev pub HaveWords : View → List RowImage → Type 0
HaveWords v [] = Unit {0}
HaveWords v (p ∷ ps) = HasWords v p.row p.words × HaveWords v ps

-- The images of the plan count and stand. Nothing else is other than before but the gaps of the plan's rows behind the first,
-- which are taken anew.
pub record SettlesRows (v w : View) (plan : List RowImage) : Type 0 where
  pub seen : SeesOn v w
  pub gathers : IsGathering w
  pub teaches : Teaches w
  -- the same rows are held
  pub same : (q : ℕ) → has w q ≡ has v q
  pub long : length w.held ≡ length v.held
  pub words : HaveWords w plan
  pub images_are : (q : ℕ) → IsHeld v q → images w q ≡ planned_contents (images v) plan q
  pub others : (q : ℕ) → times q (planned_rows plan) ≡ 0 → row_at w q ≡ row_at v q
  pub gaps : (q : ℕ) → IsHeld v q → gap_of (row_at w q) ≡ slice_index_or (new_gaps v plan) q None
  -- where no gap is taken anew
  pub gaps_stay : (q : ℕ) → times q (planned_rows (drop 1 plan)) ≡ 0 → gap_of (row_at w q) ≡ gap_of (row_at v q)
