-- The rows in which the pairs stand once a buffer has ended.
use Rattle.std.specs.Prelude.{◌≡◌, ℕ, ◌+◌, ◌≤◌, List, [], ◌∷◌, map, length, drop, reverse}
use Rattle.lt_seq.specs.declared.event.Held.{Held}
use Rattle.lt_seq.specs.declared.event.Pair.{Pair}
use Rattle.lt_seq.specs.Table.{held_in}
use Rattle.lt_forest.specs.declared.part.PartRow.{PartRow}
use Rattle.lt_forest.specs.Forest.{folded}
use Rattle.lt_forest.specs.Trees.{Nodes}
use Rattle.lt_forest.specs.Parts.{row_pair, numbers}
use Rattle.lt_locktree.specs.Endings.{TakeOver}

-- one pair in each row, from the first on
abbrev pub stood_in : List ℕ → List Pair → List PartRow
stood_in [] pairs = []
stood_in (r ∷ rows) [] = []
stood_in (r ∷ rows) (p ∷ pairs) = record { row = r; owner = p.owner; range = p.range } ∷ stood_in rows pairs

-- a range of a tree as the pair that it is there
abbrev pub held_pair : Held → Pair
held_pair h = record { owner = h.owner; range = h.range }

-- where the rows are enough, all pairs stand in them
abbrev pub AllPairsStand : Type 0
AllPairsStand = (rows : List ℕ) (pairs : List Pair) → length pairs ≤ length rows → map row_pair (stood_in rows pairs) ≡ pairs

-- which the pairs that were read of a tree are again
abbrev pub HeldPairsAreRead : Type 0
HeldPairsAreRead = (tree : ℕ) (pairs : List Pair) → map held_pair (held_in tree pairs) ≡ pairs

-- a chain's rows are enough for the buffer's pairs
abbrev pub ChainIsEnough : Type 0
ChainIsEnough = (owner : ℕ) (c : Nodes) (olds : List ℕ) → length (folded owner c olds) ≤ length olds

-- The pairs stand in the first rows of the chain. Those behind them are over, and go to the pool, the last one first.
abbrev pub FirstRowsTakeOver : Type 0
FirstRowsTakeOver =
    (olds : List ℕ) (pairs : List Pair) (over : List PartRow) → length pairs ≤ length olds → numbers over ≡ drop (length pairs) olds
    → TakeOver olds (stood_in olds pairs) [] (numbers (reverse over))

-- With one pair more than rows the first pair stands in the pool's first row.
abbrev pub VacantRowTakesOver : Type 0
VacantRowTakesOver =
    (olds : List ℕ) (vacant : ℕ) (pairs : List Pair) → length pairs ≡ length olds + 1
    → TakeOver olds (stood_in (vacant ∷ olds) pairs) (vacant ∷ []) []
