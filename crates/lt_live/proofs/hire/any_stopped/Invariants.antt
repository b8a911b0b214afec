use Rattle.std.proofs.Common.{◌≡◌, false}
use Rattle.lt_crew.specs.Workers.{AllBelow}
use Rattle.lt_live.proofs.hire.any_stopped.Given as goal

abbrev pub invariant-loop-worker : goal.invariant-loop-worker
invariant-loop-worker g l = AllBelow (λ w. w.stopped ≡ false) l.worker-index l.workers
