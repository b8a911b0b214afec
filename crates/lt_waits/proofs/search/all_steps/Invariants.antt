use Rattle.std.proofs.Common.{◌+◌, ◌≤◌, [], length, vec_len}
use Rattle.lt_waits.specs.Steps.{steps_in, IsSearch, IsHere, waiting}
use Rattle.lt_waits.proofs.search.all_steps.Given as goal

abbrev pub invariant-loop-alloc : goal.invariant-loop-alloc
invariant-loop-alloc l = record {
  search : IsSearch l.by_holder l.txn l.left (steps_in l.steps) l.layer.items;
  here : IsHere l.by_holder l.txn l.left (steps_in l.steps) [];
  few : l.left + waiting l.by_holder (steps_in l.steps) + vec_len l.layer ≤ length l.by_holder + 1;
}

abbrev pub decreases-loop-alloc : goal.decreases-loop-alloc
decreases-loop-alloc l = waiting l.by_holder (steps_in l.steps) + vec_len l.layer
