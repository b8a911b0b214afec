-- How far a walk through the last rows has come.
use Rattle.std.specs.Prelude.{◌≡◌, ℕ, List, [], ◌∷◌, ◌++◌, map}
use Rattle.lt_seq.specs.declared.event.Pair.{Pair}
use Rattle.lt_seq.specs.declared.event.Held.{Held}
use Rattle.lt_seq.specs.Pairs.{IsLawful, others}
use Rattle.lt_seq.specs.Sound.{AllOwn}
use Rattle.lt_seq.specs.Table.{held_in}
use Rattle.lt_ranges.specs.Interval.{Interval}
use Rattle.lt_forest.specs.Trees.{Tree, Nodes, LeadsTo, in_order, pair_of}
use Rattle.lt_forest.specs.Forest.{IsChain, folded}
use Rattle.lt_rows.specs.LastWords.{AllBelow, AreRows}

-- a row whose left side is gone into, with the tree to its right
pub record Waiting : Type 0 where
  pub row : ℕ
  pub right : Tree

abbrev pub AllWait : Nodes → List Waiting → Type 0
AllWait c [] = Unit {0}
AllWait c (w ∷ ws) = LeadsTo c (c w.row).right w.right × AllWait c ws

-- what comes behind them in key order; the last of them is the nearest
abbrev pub behind : List Waiting → List ℕ
behind [] = []
behind (w ∷ ws) = behind ws ++ w.row ∷ in_order w.right

-- a walk through a search tree in key order: these rows are seen, below the link is the tree that comes next
pub record InTree (c : Nodes) (rows top number : ℕ) (before : List Held) (link : ℕ) (above : List ℕ) (left : List Held) : Type 0 where
  pub whole : Tree
  pub whole_leads : LeadsTo c top whole
  pub whole_rows : AreRows rows (in_order whole)
  pub seen : List ℕ
  pub next : Tree
  pub leads : LeadsTo c link next
  pub waiting : List Waiting
  pub above_are : above ≡ map (λ w. w.row) waiting
  pub rights : AllWait c waiting
  pub order : seen ++ (in_order next ++ behind waiting) ≡ in_order whole
  pub left_are : left ≡ before ++ held_in number (map (pair_of c) seen)

-- a walk along a chain
pub record InChain (c : Nodes) (rows first link : ℕ) (seen : List ℕ) : Type 0 where
  pub whole : List ℕ
  pub whole_leads : IsChain c first whole
  pub whole_rows : AreRows rows whole
  pub rest : List ℕ
  pub leads : IsChain c link rest
  pub order : seen ++ rest ≡ whole

-- the rows of a chain from its end on, granted so far
pub record InGrants (c : Nodes) (rows txn : ℕ) (whole still : List ℕ) (pairs : List Pair) : Type 0 where
  pub done : List ℕ
  pub order : still ++ done ≡ whole
  pub below : AllBelow rows still
  pub pairs_are : pairs ≡ folded txn c done
  pub lawful : IsLawful pairs
  pub owned : AllOwn txn pairs
  pub unopposed : (range : Interval) → others txn range pairs ≡ []
