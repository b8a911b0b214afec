-- A row taken into a part, below a link that hangs there.
use Rattle.std.specs.Prelude.{◌≡◌, ℕ, ◌+◌, List, ◌∷◌, ◌++◌, length}
use Rattle.lt_forest.specs.Trees.{Nodes, in_order}
use Rattle.lt_forest.specs.Cuts.{Cut, Shows, bare}
use Rattle.lt_forest.specs.Parts.{hangs_of}

-- The wider cut has the row and its two links where the link hung, behind these links and before those.
pub record Widens (c : Nodes) (link : ℕ) (cut : Cut) (r : ℕ) (before behind : List ℕ) : Type 0 where
  pub wider : Cut
  pub shows : Shows c link wider
  pub old_hangs : hangs_of cut ≡ before ++ (r + 1) ∷ behind
  pub hangs : hangs_of wider ≡ before ++ (c r).left ∷ (c r).right ∷ behind
  pub rows_before : List ℕ
  pub rows_behind : List ℕ
  pub old_rows : in_order (bare cut) ≡ rows_before ++ rows_behind
  pub place : length rows_before ≡ length before
  pub new_rows : in_order (bare wider) ≡ rows_before ++ r ∷ rows_behind
