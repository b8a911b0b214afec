use Rattle.std.proofs.Common.{◌≡◌, ◌++◌, map}
use Rattle.lt_runner.specs.Plays.{lines_for}
use Rattle.lt_runner.specs.Seats.{opening_seat}
use Rattle.lt_crew.proofs.opening.opening_turns.Given as goal

abbrev pub invariant-loop-txn : goal.invariant-loop-txn
invariant-loop-txn l =
    l.turns.items ++ map (λ txn. opening_seat l.trees txn (lines_for txn l.lines)) l.txn-iterator
    ≡ map (λ txn. opening_seat l.trees txn (lines_for txn l.lines)) l.initial.txn-iterator
