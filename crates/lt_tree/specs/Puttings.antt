-- Rows that a search gives back.
use Rattle.std.specs.Prelude.{◌≡◌, ◌⊎◌, ℕ, ◌<◌, ◌≤◌, List, None}
use Rattle.lt_forest.specs.Counts.{times}
use Rattle.lt_rows.specs.declared.view.View.{View}
use Rattle.lt_rows.specs.Views.{IsHeld, row_at}
use Rattle.lt_rows.specs.Handles.{IsGathering}
use Rattle.lt_rows.specs.Teaching.{Teaches}
use Rattle.lt_tree.specs.States.{OnlyHeld}

-- these rows are held, each named once, and all words of the view count
pub record Keeps (v : View) (rows : List ℕ) : Type 0 where
  pub held : (q : ℕ) → 0 < times q rows → IsHeld v q
  pub once : (q : ℕ) → times q rows ≤ 1
  pub gathers : IsGathering v

-- and no other rows
pub record Backs (v : View) (rows : List ℕ) : Type 0 where
  pub keeps : Keeps v rows
  pub held_all : (q : ℕ) → IsHeld v q → 0 < times q rows

-- of these rows the last ones are given back, and the first ones are left
pub record PutsSome (v w : View) (rows left : List ℕ) : Type 0 where
  pub only : OnlyHeld v w
  pub keeps : Keeps w left
  pub others : (q : ℕ) → times q rows ≡ 0 → (times q left ≡ 0) × (row_at w q ≡ row_at v q)
  pub gone : (q : ℕ) → 0 < times q rows → (0 < times q left) ⊎ (row_at w q ≡ None)
  pub teaches : Teaches v → Teaches w

-- these rows are given back, and all else stays
pub record Puts (v w : View) (rows : List ℕ) : Type 0 where
  pub only : OnlyHeld v w
  pub gathers : IsGathering w
  pub others : (q : ℕ) → times q rows ≡ 0 → row_at w q ≡ row_at v q
  pub gone : (q : ℕ) → 0 < times q rows → row_at w q ≡ None
  pub teaches : Teaches v → Teaches w
