-- Who waits for whom by what a table holds.
use Rattle.std.specs.Prelude.{◌≡◌, ℕ, List, [], ◌∷◌, Some, true}
use Rattle.lt_ranges.specs.Numbers.{is_in}
use Rattle.lt_seq.specs.Pairs.{others}
use Rattle.lt_seq.specs.Table.{TreeState, tree_at}
use Rattle.lt_requests.specs.declared.wish.Wish.{Wish}
use Rattle.lt_requests.specs.Registered.{wish_of}

-- the owners of what the wish is for
abbrev pub holders : List TreeState → Wish → List ℕ
holders trees wish = others wish.txn wish.range (tree_at trees wish.tree).pairs

-- the one waits for something that the other holds
abbrev pub WaitsFor : List TreeState → List Wish → ℕ → ℕ → Type 0
WaitsFor trees wishes waiter holder = (w : Wish) × (wish_of waiter wishes ≡ Some w) × (is_in holder (holders trees w) ≡ true)

-- a way goes from one over these numbers, of which each waits for something that the next one holds, to the other, its last
abbrev pub IsWaitWay : List TreeState → List Wish → ℕ → List ℕ → ℕ → Type 0
IsWaitWay trees wishes from [] to = from ≡ to
IsWaitWay trees wishes from (next ∷ more) to = WaitsFor trees wishes from next × IsWaitWay trees wishes next more to

-- a way of one step or more from the transaction back to it
abbrev pub IsCircle : List TreeState → List Wish → ℕ → List ℕ → Type 0
IsCircle trees wishes txn [] = ⊥
IsCircle trees wishes txn (next ∷ more) = IsWaitWay trees wishes txn (next ∷ more) txn
