use Rattle.std.proofs.Common.{◌≡◌, ◌<◌, ◌++◌, map}
use Rattle.std.specs.List.{AllByRecursion, flat_map}
use Rattle.crossbeam_queue.specs.Passes.{view, IsPassOf}
use Rattle.lt_live.specs.Ends.{all_told}
use Rattle.lt_live.proofs.hire.part_all.Given as goal

abbrev pub invariant-loop-worker : goal.invariant-loop-worker
invariant-loop-worker g l =
    let left = l.worker-iterator.rest.items in
    let all = l.fn.workers.items in
    record {
      queue : IsPassOf l.queue l.ticket;
      queues : AllByRecursion (λ w. IsPassOf l.queue w.ticket) left;
      parts : 0 < (view l.ticket).parts;
      ticket : all_told (view l.ticket) (map (λ w. view w.ticket) left) ≡ all_told (view l.fn.ticket) (map (λ w. view w.ticket) all);
      turns : l.turns.items ++ flat_map (λ w. w.turns.items) left ≡ l.fn.turns.items ++ flat_map (λ w. w.turns.items) all;
      passes : l.passes.items ++ map (λ w. w.pass) left ≡ map (λ w. w.pass) all;
    }
