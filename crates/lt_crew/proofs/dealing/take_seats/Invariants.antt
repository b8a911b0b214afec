use Rattle.std.proofs.Common.{◌≡◌, ℕ, ◌<◌, length, get_or}
use Rattle.std.specs.Prelude.{Some}
use Rattle.lt_runner.specs.TurnView.{Seat}
use Rattle.lt_deal.specs.declared.seat.DealSeat.{DealSeat}
use Rattle.lt_crew.specs.Workers.{UpTo}
use Rattle.lt_crew.specs.DealRounds.{KeepsPass}
use Rattle.lt_crew.proofs.dealing.take_seats.Given as goal

abbrev pub invariant-loop-worker : goal.invariant-loop-worker
invariant-loop-worker g l = record {
  count : length l.seats.items ≡ l.worker-index;
  each : (k : ℕ) (d : _) (e : DealSeat Seat) → k < l.worker-index → (get_or l.fn.workers k d).seat ≡ Some (get_or l.seats.items k e);
  keeps : UpTo KeepsPass l.worker-index l.fn.workers l.workers;
}
