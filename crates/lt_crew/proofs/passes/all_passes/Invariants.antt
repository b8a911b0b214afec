use Rattle.std.proofs.Common.{◌≡◌, ◌++◌, ◌∷◌, map}
use Rattle.lt_crew.proofs.passes.all_passes.Given as goal

abbrev pub invariant-loop-worker : goal.invariant-loop-worker
invariant-loop-worker g l =
    l.passes.items ++ map (λ w. w.pass) l.worker-iterator.rest.items ≡ l.fn.me ∷ map (λ w. w.pass) l.fn.workers.items
