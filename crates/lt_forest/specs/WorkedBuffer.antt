-- A worked buffer, in a table of one tree and three further rows: transaction 1 asks for "f" and "m". Then it frees all, or
-- transaction 2 asks for "x".
use Rattle.std.specs.Prelude.{◌≡◌, ℕ, zero, suc, List, [], ◌∷◌, codes, true}
use Rattle.lt_ranges.specs.Interval.{whole}
use Rattle.lt_seq.specs.declared.event.Pair.{Pair}
use Rattle.lt_seq.specs.declared.event.Mode.{Mode}
use Rattle.lt_seq.specs.declared.event.Mode.TheVariants.{Tree as TreeMode, Buffer}
use Rattle.lt_seq.specs.declared.event.Reply.TheVariants.{Granted}
use Rattle.lt_seq.specs.declared.event.Deed.TheVariants.{Ask, Free}
use Rattle.lt_seq.specs.Table.{Setting, TreeState, tree_at, replied}
use Rattle.lt_forest.specs.Trees.{Nodes}
use Rattle.lt_forest.specs.Forest.{NoRow, Becomes}
use Rattle.lt_forest.specs.Openings.{IsOpening, opening_forest}
use Rattle.lt_ranges.specs.Short.{at}
use Rattle.lt_forest.specs.WorkedTrees.{pair, holds, leads, nodes_in, tree_modes, with_images}

abbrev pub with_buffer : Setting
with_buffer = record { plan = record { trees = 1; limit = 3; buffer = 4; passes = 1; first = 0 }; marks = [] }

-- the mode of tree 0
abbrev pub modes_of : Mode → ℕ → Mode
modes_of mode zero = mode
modes_of mode (suc t) = TreeMode 100

abbrev pub table_in : Mode → List Pair → List TreeState
table_in mode pairs = record { pairs = pairs; mode = mode } ∷ []

-- at the start, with one row in the buffer, and with two
abbrev pub none : Nodes
none = nodes_in (leads 0 ∷ leads 3 ∷ leads 4 ∷ leads 5 ∷ leads 0 ∷ [])

abbrev pub one : Nodes
one = with_images none ((0, leads 3) ∷ (1, leads 4) ∷ (2, holds 1 (at (codes "f")) 0 0) ∷ [])

abbrev pub two : Nodes
two = with_images one ((0, leads 4) ∷ (1, leads 5) ∷ (3, holds 1 (at (codes "m")) 3 0) ∷ [])

-- the chain at the front of the pool, and the buffer as a tree with one row more
abbrev pub dropped : Nodes
dropped = with_images two ((0, leads 0) ∷ (1, leads 4) ∷ (2, holds 1 (at (codes "f")) 5 0) ∷ [])

abbrev pub ended : Nodes
ended = with_images two (
    (0, leads 4) ∷ (1, leads 0) ∷ (2, holds 1 (at (codes "f")) 0 0) ∷ (3, holds 1 (at (codes "m")) 3 5)
    ∷ (4, holds 2 (at (codes "x")) 0 0) ∷ [])

abbrev pub f_alone : List TreeState
f_alone = table_in (Buffer 1 1) (pair 1 (at (codes "f")) ∷ [])

abbrev pub f_and_m : List TreeState
f_and_m = table_in (Buffer 1 2) (pair 1 (at (codes "f")) ∷ pair 1 (at (codes "m")) ∷ [])

pub record WorkedBuffer : Type 0 where
  pub opening : IsOpening 1 5 none
  pub begins : Becomes 1 5 none one tree_modes (modes_of (Buffer 1 1)) (table_in (TreeMode 100) []) f_alone
      (opening_forest 1 5) NoRow 0 1
  pub grows : Becomes 1 5 one two (modes_of (Buffer 1 1)) (modes_of (Buffer 1 2)) f_alone f_and_m begins.next NoRow 0 1
  -- transaction 1 frees all
  pub drops : Becomes 1 5 two dropped (modes_of (Buffer 1 2)) (modes_of (TreeMode 100)) f_and_m (table_in (TreeMode 100) [])
      grows.next NoRow 2 0
  pub drops_replies : replied with_buffer 1 (Free 0 whole true 2) (tree_at f_and_m 0) ≡ Free 0 whole true 2
  -- or transaction 2 asks for "x", which ends the buffer
  pub ends : Becomes 1 5 two ended (modes_of (Buffer 1 2)) (modes_of (TreeMode 0)) f_and_m
      (table_in (TreeMode 0) (pair 1 (at (codes "f")) ∷ pair 1 (at (codes "m")) ∷ pair 2 (at (codes "x")) ∷ []))
      grows.next NoRow 2 3
  pub ends_replies : replied with_buffer 2 (Ask 0 (at (codes "x")) Granted) (tree_at f_and_m 0) ≡ Ask 0 (at (codes "x")) Granted
