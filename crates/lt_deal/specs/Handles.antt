-- What the calls of a deal say of a seat.
use Rattle.std.specs.Prelude.{◌≡◌, ℕ, ◌<◌, [], ◌∷◌, length, None}
use Rattle.lt_deal.specs.declared.view.View.{View}
use Rattle.lt_deal.specs.declared.seat.DealSeat.{DealSeat}
use Rattle.lt_deal.specs.declared.deal.Deal.{Deal}
use Rattle.lt_deal.specs.Rule.{times, Gave}

module _ {T : Type 0} where
  abbrev pub knows : DealSeat T → View T
  knows s = s.place.me.0

  abbrev pub IsSeatOf : Deal T → DealSeat T → Type 0
  IsSeatOf d s = (s.place.table_id ≡ d.table.shared.table_id) × (length (knows s).stock ≡ d.count)

  -- the seat holds no item
  abbrev pub Rests : DealSeat T → Type 0
  Rests s = s.place.me.1 ≡ []

  -- the seat drew the index, and has not given its item back
  abbrev pub Holds : DealSeat T → ℕ → Type 0
  Holds s k = (s.place.me.1 ≡ (k, None) ∷ []) × (k < length (knows s).stock) × (0 < times k (knows s).drew) × ((y : T) → Gave (knows s).gave k y → ⊥)
