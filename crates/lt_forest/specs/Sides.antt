-- Parts that hang on one side of a held row, as a pass gathers them: without that row. Here the slot says which row it is and on
-- which side of it they hang.
use Rattle.std.specs.Prelude.{◌≡◌, ℕ, List, [], ◌∷◌, ◌++◌, true}
use Rattle.lt_ranges.specs.Interval.{Interval, before}
use Rattle.lt_seq.specs.Pairs.{others, freed, count_freed, granted}
use Rattle.lt_forest.specs.Trees.{Nodes, pair_of, pairs_in}
use Rattle.lt_forest.specs.Cuts.{Cut, end, held, bare}
use Rattle.lt_forest.specs.Parts.{part_row, rows_of, hangs_of}
use Rattle.lt_forest.specs.Links.{Slot, left_of, right_of, row_with}

-- the link on the row's other side
abbrev pub far_link : Nodes → Slot → ℕ
far_link c (left_of h) = (c h).right
far_link c (right_of h) = (c h).left

-- the part with the row
abbrev pub around : Nodes → Slot → Cut → Cut
around c (left_of h) part = held part h (end (c h).right)
around c (right_of h) part = held (end (c h).left) h part

-- the list with what belongs to the row: behind what hangs on its left, and before what hangs on its right
abbrev pub next_to : {A : Type 0} → Slot → A → List A → List A
next_to (left_of h) x xs = xs ++ x ∷ []
next_to (right_of h) x xs = x ∷ xs

-- the range lies on this side of the row
abbrev pub IsOnSide : Nodes → Slot → Interval → Type 0
IsOnSide c (left_of h) range = before range (c h).range ≡ true
IsOnSide c (right_of h) range = before (c h).range range ≡ true

-- in key order the part with the row has the row's entry, the far link and the row's pair more
pub record AddsTheRow (c : Nodes) (s : Slot) (part : Cut) : Type 0 where
  pub rows : rows_of c (around c s part) ≡ next_to s (part_row c (row_with s)) (rows_of c part)
  pub hangs : hangs_of (around c s part) ≡ next_to s (far_link c s) (hangs_of part)
  pub pairs : pairs_in c (bare (around c s part)) ≡ next_to s (pair_of c (row_with s)) (pairs_in c (bare part))

-- asks and frees on this side of the row see and change what the part shows, and leave the row
pub record StepsOnSide (txn : ℕ) (range : Interval) (c : Nodes) (s : Slot) (part : Cut) : Type 0 where
  pub same_others : others txn range (pairs_in c (bare (around c s part))) ≡ others txn range (pairs_in c (bare part))
  pub same_count : count_freed txn range (pairs_in c (bare (around c s part))) ≡ count_freed txn range (pairs_in c (bare part))
  pub new_freed : freed txn range (pairs_in c (bare (around c s part)))
      ≡ next_to s (pair_of c (row_with s)) (freed txn range (pairs_in c (bare part)))
  pub new_granted : granted txn range (pairs_in c (bare (around c s part)))
      ≡ next_to s (pair_of c (row_with s)) (granted txn range (pairs_in c (bare part)))
