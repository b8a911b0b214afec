use Rattle.std.proofs.Common.{◌≡◌, ◌+◌, List, length}
use Rattle.std.specs.List.{All}
use Rattle.lt_runner.specs.TurnView.{Seat}
use Rattle.lt_deal.specs.declared.deal.Deal.{Deal}
use Rattle.lt_deal.specs.Fresh.{IsNewSeat}
use Rattle.lt_crew.specs.Workers.{UpTo}
use Rattle.lt_crew.specs.DealRounds.{GetsSeat}
use Rattle.lt_crew.proofs.dealing.seat_all.Given as goal

abbrev pub invariant-loop-worker : goal.invariant-loop-worker
invariant-loop-worker g l = record {
  count : length l.left.items + l.worker-index ≡ length l.fn.seats.items;
  each : (deal : Deal Seat) (stock : List Seat) → All (IsNewSeat deal.table.shared.table_id stock) l.fn.seats.items
      → All (IsNewSeat deal.table.shared.table_id stock) l.left.items × UpTo (GetsSeat deal stock) l.worker-index l.fn.workers l.workers;
}
