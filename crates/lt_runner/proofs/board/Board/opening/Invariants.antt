use Rattle.std.proofs.Common.{◌≡◌, ◌++◌, [], map}
use Rattle.lt_runner.specs.Seats.{opening_seat}
use Rattle.lt_runner.proofs.board.Board.opening.Given as goal

abbrev pub invariant-loop-txn : goal.invariant-loop-txn
invariant-loop-txn l = l.turns.items ++ map (λ txn. opening_seat l.trees txn []) l.txn-iterator ≡ map (λ txn. opening_seat l.trees txn []) l.initial.txn-iterator
