use Rattle.std.proofs.Common.{◌+◌, ◌≤◌, drop, vec_len}
use Rattle.lt_waits.specs.Steps.{steps_in, IsSearch, IsHere, Grows, waiting}
use Rattle.lt_waits.proofs.search.next_layer.Given as goal

abbrev pub invariant-loop-holder : goal.invariant-loop-holder
invariant-loop-holder l = record {
  search : IsSearch l.by_holder l.txn l.left (steps_in l.steps) l.next.items;
  grows : Grows (steps_in l.fn.steps) (steps_in l.steps);
  here : IsHere l.by_holder l.txn l.left (steps_in l.steps) (drop l.holder-index l.layer);
  fewer : waiting l.by_holder (steps_in l.steps) + vec_len l.next ≤ waiting l.by_holder (steps_in l.fn.steps);
}
