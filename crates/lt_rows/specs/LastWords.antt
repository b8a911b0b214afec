-- The words that a table ends with, and what is left in them.
use Rattle.std.specs.Prelude.{◌≡◌, ℕ, ◌<◌, ◌≤◌, List, [], ◌∷◌, length}
use Rattle.std.specs.Mem.Slots.{slots_items}
use Rattle.lt_rows.specs.declared.row_plan.RowPlan.{RowPlan}
use Rattle.lt_seq.specs.Table.{TreeState}
use Rattle.lt_forest.specs.Trees.{Tree, Nodes, LeadsTo, in_order}
use Rattle.lt_forest.specs.Forest.{Forest, IsChain, IsForest}
use Rattle.lt_rows.specs.declared.last_words.LastWords.{LastWords}
use Rattle.lt_rows.specs.Openings.{row_words}
use Rattle.lt_rows.specs.Nodes.{nodes, modes}
use Rattle.lt_rows.specs.Views.{rows_of}

abbrev pub words_in : LastWords → List ℕ
words_in last = slots_items last.closed.words

-- what the rows hold at last
abbrev pub nodes_in : LastWords → Nodes
nodes_in last = nodes (row_words (words_in last))

abbrev pub AllBelow : ℕ → List ℕ → Type 0
AllBelow n [] = Unit {0}
AllBelow n (x ∷ xs) = (x < n) × AllBelow n xs

-- rows of the table, and no more than it has
pub record AreRows (rows : ℕ) (these : List ℕ) : Type 0 where
  pub below : AllBelow rows these
  pub few : length these ≤ rows

-- a link that leads to a search tree
pub record LeadsToTree (last : LastWords) (link : ℕ) : Type 0 where
  pub tree : Tree
  pub leads : LeadsTo (nodes_in last) link tree
  pub rows : AreRows last.rows (in_order tree)

-- a link that leads along a chain
pub record LeadsToChain (last : LastWords) (link : ℕ) : Type 0 where
  pub chain : List ℕ
  pub leads : IsChain (nodes_in last) link chain
  pub rows : AreRows last.rows chain

-- the last words are a forest of this table
pub record IsLastForest (plan : RowPlan) (last : LastWords) (state : List TreeState) : Type 0 where
  pub rows_are : last.rows ≡ rows_of plan
  pub forest : Forest
  pub stands : IsForest plan.trees (rows_of plan) (nodes_in last) (modes (row_words (words_in last))) state forest
