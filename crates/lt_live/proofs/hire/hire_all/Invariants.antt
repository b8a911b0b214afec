use Rattle.std.proofs.Common.{◌≡◌, ◌<◌, ◌-◌, ◌++◌, length, map}
use Rattle.std.specs.List.{All}
use Rattle.crossbeam_queue.specs.Passes.{view, IsPassOf}
use Rattle.lt_live.specs.Deals.{hand}
use Rattle.lt_live.specs.Ends.{IsFresh}
use Rattle.lt_live.proofs.hire.hire_all.Given as goal

abbrev pub invariant-loop-pass : goal.invariant-loop-pass
invariant-loop-pass g l = record {
  queue : IsPassOf l.queue l.ticket;
  parts : length l.pass-iterator.rest.items < (view l.ticket).parts;
  ticket : hand ((view l.ticket).parts - length l.pass-iterator.rest.items) (view l.ticket).put (view l.ticket).taken
      ≡ hand ((view l.fn.ticket).parts - length l.fn.passes.items) (view l.fn.ticket).put (view l.fn.ticket).taken;
  own : map (λ w. w.pass) l.workers.items ++ l.pass-iterator.rest.items ≡ l.fn.passes.items;
  fresh : All (IsFresh (IsPassOf l.queue)) l.workers.items;
}
