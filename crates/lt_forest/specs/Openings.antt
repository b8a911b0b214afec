-- The rows of a table at the start.
use Rattle.std.specs.Prelude.{◌≡◌, ℕ, ◌+◌, ◌-◌, ◌<◌, ◌≤◌}
use Rattle.lt_seq.specs.Passes.{numbers_from}
use Rattle.lt_forest.specs.Trees.{leaf, Nodes}
use Rattle.lt_forest.specs.Forest.{Forest, search_tree}

-- no tree has a row, and from the pool's anchor on each row leads to the next
pub record IsOpening (trees rows : ℕ) (c : Nodes) : Type 0 where
  pub room : trees < rows
  pub empty : (t : ℕ) → t < trees → (c t).left ≡ 0
  pub next : (r : ℕ) → trees ≤ r → r + 1 < rows → (c r).left ≡ r + 2
  pub last : (c (rows - 1)).left ≡ 0

abbrev pub opening_forest : ℕ → ℕ → Forest
opening_forest trees rows = record { tree = λ _. search_tree leaf; pool = numbers_from (trees + 1) (rows - (trees + 1)) }
