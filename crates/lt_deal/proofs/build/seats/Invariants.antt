use Rattle.std.proofs.Common.{◌≡◌, ◌+◌, ◌-◌, [], length, All}
use Rattle.lt_deal.specs.Fresh.{waiting, IsNewSeat}
use Rattle.lt_deal.proofs.build.seats.Given as goal

abbrev pub invariant-loop-number : goal.invariant-loop-number
invariant-loop-number g l =
    (l.place.table_id ≡ l.fn.place.table_id) × (l.place.me ≡ (waiting (l.workers + 1 - l._number) l.fn.place.me.0.stock, []))
    × (length l.seats.items + 1 ≡ l._number) × All (IsNewSeat l.fn.place.table_id l.fn.place.me.0.stock) l.seats.items
