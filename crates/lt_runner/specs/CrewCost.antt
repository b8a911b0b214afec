-- How many events a crew's run makes at most.
use Rattle.std.specs.Prelude.{ℕ, ◌+◌, ◌*◌, ◌≤◌, List, [], ◌∷◌, map, length}
use Rattle.lt_trace.specs.Trace.{TraceView}
use Rattle.lt_trace.specs.Grammar.{txns_of}
use Rattle.lt_runner.specs.TurnView.{Seat}
use Rattle.lt_runner.specs.Plays.{lines_for}
use Rattle.lt_runner.specs.Seats.{opening_seat}
use Rattle.lt_runner.specs.Serial.{setting_of, most_events}
use Rattle.lt_runner.specs.Work.{work, steps}

abbrev pub sum_of : (Seat → ℕ) → List Seat → ℕ
sum_of f [] = 0
sum_of f (s ∷ ss) = f s + sum_of f ss

-- The events of one pass of retries that nothing else pays for: of each that waits the joins of all trees, an ask, and a question for
-- each that waits.
abbrev pub pass_cost : ℕ → ℕ → ℕ
pass_cost trees txns = txns * (trees + 1 + txns)

-- the transactions of a trace, none of them begun
abbrev pub seats_of : TraceView → List Seat
seats_of trace = map (λ txn. opening_seat trace.trees txn (lines_for txn trace.lines)) (txns_of trace.lines)

-- With one pass of retries for each step, and all that is paid for, a run makes no more events than its bound.
abbrev pub CrewsMakeFew : Type 0
CrewsMakeFew =
    (trace : TraceView) (passes first : ℕ)
    → sum_of (work (setting_of trace passes first)) (seats_of trace)
    + sum_of steps (seats_of trace) * pass_cost trace.trees (length (txns_of trace.lines)) ≤ most_events trace
