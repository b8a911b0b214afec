-- What a start or a retry of a transaction that waits costs.
use Rattle.std.specs.Prelude.{◌≡◌, ℕ, ◌+◌, ◌<◌, ◌≤◌, List, length, true, Result, Ok, Err}
use Rattle.lt_seq.specs.declared.fault.Fault.{Fault}
use Rattle.lt_seq.specs.declared.fault.Fault.TheVariants.{OutOfMemory, Busy, HistoryFull, OutOfLocks}
use Rattle.lt_seq.specs.Table.{Setting}
use Rattle.lt_seq.specs.Yard.{PassView, IsSound}
use Rattle.lt_requests.specs.declared.wish.Wish.{Wish}
use Rattle.lt_requests.specs.declared.started.Started.{Started}
use Rattle.lt_requests.specs.declared.started.Started.TheVariants.{Granted, Waits, Deadlock}
use Rattle.lt_requests.specs.Started.{IsStarted}
use Rattle.lt_runner.specs.TurnView.{Seat}
use Rattle.lt_runner.specs.Attempt.{bar_of}
use Rattle.lt_runner.specs.PlaysOn.{IsFit}
use Rattle.lt_runner.specs.Board.{seat_so}
use Rattle.lt_runner.specs.StartsOn.{IsAmongWishes}
use Rattle.lt_runner.specs.Work.{work, steps}

-- Besides what is paid for it makes the joins of all trees, an ask, and a question for each that is registered, at most.
abbrev pub CostsStart : Setting → ℕ → PassView → PassView → Seat → Seat → Type 0
CostsStart setting registered old new was is =
    length new.mine + work setting is ≤ length old.mine + work setting was + (setting.plan.trees + 1 + registered)

-- By the answer: one that waits on is no step on, each other answer is one.
abbrev pub StartsCost : Setting → ℕ → PassView → PassView → Seat → Result Started Fault → Type 0
StartsCost setting registered old new was (Ok (Granted place buffered)) =
    let is = seat_so was.turn (Ok (Granted place buffered)) in CostsStart setting registered old new was is × (steps is < steps was)
StartsCost setting registered old new was (Ok (Waits owners)) =
    let is = seat_so was.turn (Ok (Waits owners)) in CostsStart setting registered old new was is × (steps is ≡ steps was)
StartsCost setting registered old new was (Ok (Deadlock walk)) =
    let is = seat_so was.turn (Ok (Deadlock walk)) in CostsStart setting registered old new was is × (steps is < steps was)
StartsCost setting registered old new was (Err OutOfMemory) = Unit {0}
StartsCost setting registered old new was (Err (Busy row holder)) = Unit {0}
StartsCost setting registered old new was (Err (HistoryFull place)) = Unit {0}
StartsCost setting registered old new was (Err (OutOfLocks place used_rows)) =
    let is = seat_so was.turn (Err (OutOfLocks place used_rows)) in CostsStart setting registered old new was is × (steps is < steps was)

-- So it is for each answer, where the line that ends the transaction is left besides.
abbrev pub StartsAreSteps : Type 0
StartsAreSteps =
    (setting : Setting) (bar : ℕ) (seat : Seat) (wish : Wish) (others wishes before : List Wish) (old new : PassView)
    (left : List Wish) (result : Result Started Fault)
    → bar ≡ bar_of setting seat.turn → IsSound setting old → IsAmongWishes seat wish wishes
    → IsFit setting seat → seat.turn.waits ≡ true → 2 ≤ length seat.turn.lines
    → IsStarted setting bar wish others wishes before old new left result
    → StartsCost setting (length wishes) old new seat result
