use Rattle.std.proofs.Common.{◌+◌, ◌≤◌, All, take, vec_len}
use Rattle.lt_waits.specs.Steps.{steps_in, IsSearch, Grows, AddsOnly, HasStep, waiting}
use Rattle.lt_waits.proofs.search.open.Given as goal

abbrev pub invariant-loop-wait : goal.invariant-loop-wait
invariant-loop-wait l = record {
  search : IsSearch l.by_holder l.txn l.left (steps_in l.steps) l.found.items;
  grows : Grows (steps_in l.fn.steps) (steps_in l.steps);
  adds : AddsOnly l.left (steps_in l.fn.steps) (steps_in l.steps);
  opened : All (λ w. HasStep (steps_in l.steps) w.waiter l.holder l.left) (take l.wait-index l.wait-items);
  fewer : waiting l.by_holder (steps_in l.steps) + vec_len l.found ≤ waiting l.by_holder (steps_in l.fn.steps) + vec_len l.fn.found;
}
