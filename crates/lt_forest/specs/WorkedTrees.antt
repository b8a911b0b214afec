-- Worked plans on a small table: one tree with four rows, and three rows in the pool. Transaction 1 holds "f", "m" and "t",
-- transaction 2 holds "x".
use Rattle.std.specs.Prelude.{◌≡◌, ℕ, List, [], ◌∷◌, codes, true, slice_index_or, nat_eq, if◌then◌else◌, Some, None}
use Rattle.lt_ranges.specs.declared.key.Key.TheVariants.{Bytes}
use Rattle.lt_ranges.specs.Short.{from_to, at}
use Rattle.lt_ranges.specs.Interval.{Interval, whole}
use Rattle.lt_seq.specs.declared.event.Pair.{Pair}
use Rattle.lt_seq.specs.declared.event.Mode.{Mode}
use Rattle.lt_seq.specs.declared.event.Mode.TheVariants.{Tree as TreeMode}
use Rattle.lt_seq.specs.declared.event.Reply.TheVariants.{Granted, Buffered}
use Rattle.lt_seq.specs.declared.event.Deed.{Deed}
use Rattle.lt_seq.specs.declared.event.Deed.TheVariants.{Ask, Free, Who, Join}
use Rattle.lt_seq.specs.declared.event.Event.{Event}
use Rattle.lt_seq.specs.History.{after, IsLegal}
use Rattle.lt_seq.specs.Table.{Setting, TreeState, tree_at, replied}
use Rattle.lt_forest.specs.Trees.{Node, Tree, leaf, node, Nodes}
use Rattle.lt_forest.specs.Cuts.{Cut, end, held}
use Rattle.lt_forest.specs.Forest.{Forest, search_tree, IsForest}
use Rattle.lt_forest.specs.Widenings.{Widens}
use Rattle.lt_forest.specs.Plans.{Top, from_anchor, from_row, Relaid, ReplacedPart}

abbrev pub pair : ℕ → Interval → Pair
pair owner range = record { owner = owner; range = range }

abbrev pub holds : ℕ → Interval → ℕ → ℕ → Node
holds owner range left right = record { owner = owner; range = range; left = left; right = right }

-- an anchor or a vacant row, of which only the left link counts
abbrev pub leads : ℕ → Node
leads left = holds 0 whole left 0

abbrev pub nodes_in : List Node → Nodes
nodes_in list r = slice_index_or list r (leads 0)

-- the table

abbrev pub one_tree : Setting
one_tree = record { plan = record { trees = 1; limit = 6; buffer = 0; passes = 1; first = 0 }; marks = [] }

-- the anchor leads to row 4, below which stand rows 2 and 6, and row 5 below row 6; the pool has rows 3, 7 and 8
abbrev pub four : Nodes
four = nodes_in (
    leads 5 ∷ leads 4 ∷ holds 1 (at (codes "f")) 0 0 ∷ leads 8 ∷ holds 1 (at (codes "m")) 3 7 ∷ holds 2 (at (codes "x")) 0 0
    ∷ holds 1 (at (codes "t")) 0 6 ∷ leads 9 ∷ leads 0 ∷ [])

abbrev pub four_tree : Tree
four_tree = node (node leaf 2 leaf) 4 (node leaf 6 (node leaf 5 leaf))

abbrev pub four_forest : Forest
four_forest = record { tree = λ t. search_tree four_tree; pool = 3 ∷ 7 ∷ 8 ∷ [] }

abbrev pub tree_modes : ℕ → Mode
tree_modes t = TreeMode 100

abbrev pub table_of : List Pair → List TreeState
table_of pairs = record { pairs = pairs; mode = TreeMode 100 } ∷ []

abbrev pub four_state : List TreeState
four_state = table_of (pair 1 (at (codes "f")) ∷ pair 1 (at (codes "m")) ∷ pair 1 (at (codes "t")) ∷ pair 2 (at (codes "x")) ∷ [])

-- a history that leads there
abbrev pub four_events : List Event
four_events =
    record { pass = 0; txn = 1; deed = Ask 0 (at (codes "m")) Granted }
    ∷ record { pass = 0; txn = 2; deed = Ask 0 (at (codes "x")) Granted }
    ∷ record { pass = 0; txn = 1; deed = Ask 0 (at (codes "f")) Granted }
    ∷ record { pass = 0; txn = 1; deed = Ask 0 (at (codes "t")) Granted } ∷ []

-- The table is one that a legal history leads to, and the rows are a forest of it.
pub record WorkedStart : Type 0 where
  pub legal : IsLegal one_tree four_events
  pub leads_there : after one_tree four_events ≡ four_state
  pub forest : IsForest 1 9 four tree_modes four_state four_forest

-- the nodes with the images of a plan, each with its row
abbrev pub with_images : Nodes → List (ℕ × Node) → Nodes
with_images c [] = c
with_images c (i ∷ is) = λ r. if nat_eq i.0 r then i.1 else with_images c is r

-- What a plan for a deed of a transaction makes of this table: it lays a part anew, and the table after it is this.
pub record Works (txn : ℕ) (deed : Deed) (top : Top) (cut new : Cut) (images : List (ℕ × Node)) (after : List Pair) : Type 0 where
  pub relaid : Relaid 1 9 four (with_images four images) tree_modes tree_modes four_state (table_of after) four_forest 0 top cut new
  pub replies : replied one_tree txn deed (tree_at four_state 0) ≡ deed

abbrev pub insertion_images : List (ℕ × Node)
insertion_images = (6, holds 1 (at (codes "t")) 4 6) ∷ (3, holds 2 (at (codes "p")) 0 0) ∷ (1, leads 8) ∷ []

-- Transaction 2 asks for "p". Row 6 stays held, with the gap above "m"; row 3 comes from the pool as its left child.
abbrev pub WorkedInsertion : Type 0
WorkedInsertion =
    Works 2 (Ask 0 (at (codes "p")) Granted) (from_row 6 (Some (Bytes (codes "m")), None))
    (held (end 0) 6 (end 6))
    (held (held (end 0) 3 (end 0)) 6 (end 6))
    insertion_images
    (pair 1 (at (codes "f")) ∷ pair 1 (at (codes "m")) ∷ pair 2 (at (codes "p")) ∷ pair 1 (at (codes "t")) ∷ pair 2 (at (codes "x")) ∷ [])

-- Transaction 1 asks for "f" to "t": its three ranges become one, in row 4, and rows 2 and 6 go to the pool.
abbrev pub WorkedMerge : Type 0
WorkedMerge =
    Works 1 (Ask 0 (from_to (codes "f") (codes "t")) Granted) from_anchor
    (held (held (end 0) 2 (end 0)) 4 (held (end 0) 6 (end 6)))
    (held (end 0) 4 (end 6))
    ((4, holds 1 (from_to (codes "f") (codes "t")) 0 6) ∷ (2, leads 7) ∷ (6, leads 4) ∷ (1, leads 3) ∷ [])
    (pair 1 (from_to (codes "f") (codes "t")) ∷ pair 2 (at (codes "x")) ∷ [])

-- The table after the insertion.
abbrev pub five : Nodes
five = with_images four insertion_images

abbrev pub five_state : List TreeState
five_state = table_of
    (pair 1 (at (codes "f")) ∷ pair 1 (at (codes "m")) ∷ pair 2 (at (codes "p")) ∷ pair 1 (at (codes "t")) ∷ pair 2 (at (codes "x")) ∷ [])

-- Transaction 1 frees "m" there. Two links hang below row 4, so that row 6 is taken into the part. Its left link leads on, to row
-- 3, which is taken too: it has no left link, so that what hung to the left of row 4 hangs there.
pub record WorkedRemoval : Type 0 where
  pub forest : Forest
  pub is : IsForest 1 9 five tree_modes five_state forest
  pub once : Widens five 5 (held (end 3) 4 (end 7)) 6 (3 ∷ []) []
  pub twice : Widens five 5 once.wider 3 (3 ∷ []) (6 ∷ [])
  pub relaid : Relaid 1 9 five
      (with_images five ((0, leads 7) ∷ (3, holds 2 (at (codes "p")) 3 0) ∷ (4, leads 8) ∷ (1, leads 5) ∷ []))
      tree_modes tree_modes five_state
      (table_of (pair 1 (at (codes "f")) ∷ pair 2 (at (codes "p")) ∷ pair 1 (at (codes "t")) ∷ pair 2 (at (codes "x")) ∷ []))
      forest 0 from_anchor
      (held (end 3) 4 (held (held (end 0) 3 (end 0)) 6 (end 6)))
      (held (held (end 3) 3 (end 0)) 6 (end 6))
  pub replies : replied one_tree 1 (Free 0 (at (codes "m")) true 1) (tree_at five_state 0) ≡ Free 0 (at (codes "m")) true 1

-- The tree is joined: the three ranges of transaction 1 become one.
abbrev pub WorkedJoin : Type 0
WorkedJoin =
    Works 2 (Join 0 4 2) from_anchor
    (held (held (end 0) 2 (end 0)) 4 (held (end 0) 6 (held (end 0) 5 (end 0))))
    (held (end 0) 4 (held (end 0) 5 (end 0)))
    ((4, holds 1 (from_to (codes "f") (codes "t")) 0 6) ∷ (2, leads 7) ∷ (6, leads 4) ∷ (1, leads 3) ∷ [])
    (pair 1 (from_to (codes "f") (codes "t")) ∷ pair 2 (at (codes "x")) ∷ [])

-- A question who holds "a" to "g" against transaction 2 changes nothing: row 2 alone is visited.
abbrev pub WorkedQuestion : Type 0
WorkedQuestion =
    Works 2 (Who 0 (from_to (codes "a") (codes "g")) 2 (1 ∷ [])) from_anchor
    (held (held (end 0) 2 (end 0)) 4 (end 7))
    (held (held (end 0) 2 (end 0)) 4 (end 7))
    []
    (pair 1 (at (codes "f")) ∷ pair 1 (at (codes "m")) ∷ pair 1 (at (codes "t")) ∷ pair 2 (at (codes "x")) ∷ [])

-- Rows 4 and 2 are turned to the right, and the table stays.
abbrev pub WorkedRotation : Type 0
WorkedRotation =
    Relaid 1 9 four
    (with_images four ((0, leads 3) ∷ (2, holds 1 (at (codes "f")) 0 5) ∷ (4, holds 1 (at (codes "m")) 0 7) ∷ []))
    tree_modes tree_modes four_state four_state four_forest 0 from_anchor
    (held (held (end 0) 2 (end 0)) 4 (end 7))
    (held (end 0) 2 (held (end 0) 4 (end 7)))

-- Row 6 gets another owner and "p" to "q" in place of "t": the range lies in the gap above "m" and ends no later than "t" did,
-- before what hangs behind it.
abbrev pub WorkedReplacement : Type 0
WorkedReplacement =
    ReplacedPart 1 9 four (with_images four ((6, holds 3 (from_to (codes "p") (codes "q")) 0 6) ∷ [])) tree_modes four_state four_forest 0
    (from_row 6 (Some (Bytes (codes "m")), None)) (held (end 0) 6 (end 6)) (held (end 0) 6 (end 6))

-- The same rows, with the score 0: a history leads there in which a buffer of transaction 1 ended.
abbrev pub one_buffer : Setting
one_buffer = record { plan = record { trees = 1; limit = 6; buffer = 1; passes = 1; first = 0 }; marks = [] }

abbrev pub modes_at : ℕ → ℕ → Mode
modes_at score t = TreeMode score

abbrev pub table_at : ℕ → List Pair → List TreeState
table_at score pairs = record { pairs = pairs; mode = TreeMode score } ∷ []

abbrev pub low_state : List TreeState
low_state = table_at 0
    (pair 1 (at (codes "f")) ∷ pair 1 (at (codes "m")) ∷ pair 1 (at (codes "t")) ∷ pair 2 (at (codes "x")) ∷ [])

abbrev pub low_events : List Event
low_events =
    record { pass = 0; txn = 1; deed = Ask 0 (at (codes "m")) Buffered }
    ∷ record { pass = 0; txn = 2; deed = Ask 0 (at (codes "x")) Granted }
    ∷ record { pass = 0; txn = 1; deed = Ask 0 (at (codes "f")) Granted }
    ∷ record { pass = 0; txn = 1; deed = Ask 0 (at (codes "t")) Granted } ∷ []

-- Transaction 2 frees "x" there, first of a release. The part hangs from row 6, with row 4 above it let go, and the anchor is held
-- beside it: the anchor's link stays, and its score rises by one.
pub record WorkedFirstFree : Type 0 where
  pub legal : IsLegal one_buffer low_events
  pub leads_there : after one_buffer low_events ≡ low_state
  pub relaid : Relaid 1 9 four
      (with_images four ((0, leads 5) ∷ (6, holds 1 (at (codes "t")) 0 0) ∷ (5, leads 4) ∷ (1, leads 6) ∷ []))
      (modes_at 0) (modes_at 1) low_state
      (table_at 1 (pair 1 (at (codes "f")) ∷ pair 1 (at (codes "m")) ∷ pair 1 (at (codes "t")) ∷ []))
      four_forest 0 (from_row 6 (Some (Bytes (codes "m")), None))
      (held (end 0) 6 (held (end 0) 5 (end 0)))
      (held (end 0) 6 (end 0))
  pub replies : replied one_buffer 2 (Free 0 (at (codes "x")) true 1) (tree_at low_state 0) ≡ Free 0 (at (codes "x")) true 1
