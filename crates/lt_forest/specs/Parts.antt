-- Parts in key order: rows, with one more link than rows hanging between them.
use Rattle.std.specs.Prelude.{ℕ, List, [], ◌∷◌, ◌++◌, map, Some}
use Rattle.lt_seq.specs.declared.event.Pair.{Pair}
use Rattle.lt_forest.specs.declared.part.PartRow.{PartRow}
use Rattle.lt_forest.specs.Bounds.{Bound}
use Rattle.lt_forest.specs.Trees.{Nodes, in_order}
use Rattle.lt_forest.specs.Cuts.{Cut, end, held, bare, End, end_if}

abbrev pub part_row : Nodes → ℕ → PartRow
part_row c r = record { row = r; owner = (c r).owner; range = (c r).range }

-- the rows of a cut in key order
abbrev pub rows_of : Nodes → Cut → List PartRow
rows_of c cut = map (part_row c) (in_order (bare cut))

-- and its links, also those that are 0
abbrev pub hangs_of : Cut → List ℕ
hangs_of (end l) = l ∷ []
hangs_of (held a r b) = hangs_of a ++ hangs_of b

-- a row's range with its owner
abbrev pub row_pair : PartRow → Pair
row_pair r = record { owner = r.owner; range = r.range }

-- the numbers of the rows
abbrev pub numbers : List PartRow → List ℕ
numbers rows = map (λ r. r.row) rows

-- the links other than 0 that hang, each between the rows that stand nearest
abbrev pub hanging : List PartRow → List ℕ → Bound → Bound → List End
hanging rows [] x y = []
hanging [] (l ∷ ls) x y = end_if l x y
hanging (r ∷ rows) (l ∷ ls) x y = end_if l x (Some r.range.left) ++ hanging rows ls (Some r.range.right) y
