use Rattle.std.proofs.Common.{◌≡◌, ◌++◌, false, map}
use Rattle.std.specs.List.{All}
use Rattle.lt_crew.proofs.passes.idle_workers.Given as goal

abbrev pub invariant-loop-pass : goal.invariant-loop-pass
invariant-loop-pass g l = record {
  own : map (λ w. w.pass) l.workers.items ++ l.pass-iterator.rest.items ≡ l.fn.passes.items;
  memory : All (λ w. w.short ≡ false) l.workers.items;
}
