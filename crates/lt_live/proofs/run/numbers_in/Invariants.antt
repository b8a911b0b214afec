use Rattle.std.proofs.Common.{◌≡◌, ◌++◌}
use Rattle.lt_live.proofs.run.numbers_in.Given as goal

abbrev pub invariant-loop-txn : goal.invariant-loop-txn
invariant-loop-txn l = l.numbers.items ++ l.txn-iterator ≡ l.initial.txn-iterator
