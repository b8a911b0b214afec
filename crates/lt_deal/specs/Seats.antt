-- A seat of a deal.
use Rattle.std.specs.Prelude.{◌≡◌, Option}
use Rattle.atomic_table.specs.declared.shared.Seat.{Seat}
use Rattle.atomic_table.specs.Seated.{TableId}
use Rattle.lt_deal.specs.declared.view.View.{View}

module _ {T : Type 0} where
  abbrev pub view : Seat (Option T) (View T) → View T
  view s = s.me.0

-- the table has one word, and no number wraps
abbrev pub Fits : TableId → Type 0
Fits z = z.words ≡ 1
