-- What the seats of a deal leave at its end.
use Rattle.std.specs.Prelude.{◌≡◌, ℕ, ◌+◌, ◌<◌, ◌≤◌, List, [], ◌∷◌, ◌++◌, length, map}
use mathlib.Core.Option.{some}
use lib.ListN.{get_elem?}
use Rattle.atomic_table.specs.Seated.{TableId}
use Rattle.lt_deal.specs.declared.seat.DealSeat.{DealSeat}
use Rattle.lt_deal.specs.Rule.{times, Gave}
use Rattle.lt_deal.specs.Handles.{knows, Rests}

module _ {T : Type 0} where
  -- the seat holds no item, and gave back each that it drew
  abbrev pub HasReturned : TableId → DealSeat T → Type 0
  HasReturned z s = (s.place.table_id ≡ z) × Rests s × (map (λ (g : ℕ × T). g.0) (knows s).gave ≡ (knows s).drew)

  abbrev pub drew_of : List (DealSeat T) → List ℕ
  drew_of [] = []
  drew_of (s ∷ seats) = (knows s).drew ++ drew_of seats

  abbrev pub gave_of : List (DealSeat T) → List (ℕ × T)
  gave_of [] = []
  gave_of (s ∷ seats) = (knows s).gave ++ gave_of seats

  abbrev pub nones_of : List (DealSeat T) → ℕ
  nones_of [] = 0
  nones_of (s ∷ seats) = (knows s).nones + nones_of seats

  -- the first items, as the first of the seats knows them
  abbrev pub stock_of : List (DealSeat T) → List T
  stock_of [] = []
  stock_of (s ∷ seats) = (knows s).stock

-- what comes back of these first items where so many draws were answered None
pub record IsClosed {T : Type 0} (stock : List T) (drew : List ℕ) (gave : List (ℕ × T)) (nones : ℕ) (items : List T) : Type 0 where
  pub count : length items ≡ length stock
  pub once : (k : ℕ) → times k drew ≤ 1
  pub all : 0 < nones → (k : ℕ) → k < length stock → times k drew ≡ 1
  pub back : (k : ℕ) (x : T) → Gave gave k x → get_elem? items k ≡ some x
  pub first : (k : ℕ) (x : T) → times k drew ≡ 0 → get_elem? stock k ≡ some x → get_elem? items k ≡ some x
