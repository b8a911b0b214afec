use Rattle.lt_runner.proofs.StandingLaws.{seats_stand, waiters_have_lines}
use Rattle.lt_runner.proofs.laws.seats_stand.Goals as goal

pub returns : goal.returns
returns c = record { stand = seats_stand; wait = waiters_have_lines }
