-- What the caller's turn comes to where nothing is left to do but for those that wait.
use Rattle.std.specs.Prelude.{◌≡◌, ℕ, ◌<◌, List, length, slice_index_or, true}
use Rattle.lt_runner.specs.TurnView.{Seat}
use Rattle.lt_runner.specs.Work.{steps}
use Rattle.lt_runner.specs.CrewCost.{sum_of}
use Rattle.lt_runner.specs.Standing.{AllWaitOrAreOver}
use Rattle.lt_runner.specs.Retries.{AllWaitersListed}

-- Where each waits or is over, each that waits is registered, and one waits, fewer steps are left.
abbrev pub SettlesOne : List Seat → List Seat → Type 0
SettlesOne were are =
    AllWaitOrAreOver were → AllWaitersListed were → (index : ℕ) (d : Seat) → index < length were
    → (slice_index_or were index d).turn.waits ≡ true → sum_of steps are < sum_of steps were
