use Rattle.lt_runner.proofs.RetriesLaws.{retries_go_on, listed_are_waiters, held_seats_stay}
use Rattle.lt_runner.proofs.laws.retries_go_on.Goals as goal

pub returns : goal.returns
returns c = record { on = retries_go_on; registry = listed_are_waiters; seat = held_seats_stay }
