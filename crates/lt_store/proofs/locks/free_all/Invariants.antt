use Rattle.std.proofs.Common.{◌≡◌, ◌+◌, ◌≤◌, ◌^◌, length, drop, true}
use Rattle.lt_seq.specs.Yard.{origin_of}
use Rattle.lt_store.specs.Attempts.{all_freed}
use Rattle.lt_store.specs.Locks.{IsTable}
use Rattle.lt_store.proofs.locks.free_all.Given as goal

-- what is left to free goes on from here
abbrev pub invariant-loop-each : goal.invariant-loop-each
invariant-loop-each g l = record {
  of : g.Y.Pass.Pass.origin l.pass ≡ origin_of (g.Y.Yard.identity l.yard) (g.Y.Yard.setting l.yard);
  table : IsTable (g.Y.Yard.setting l.yard).plan.limit (g.Y.Pass.Pass.view l.pass);
  room : length (g.Y.Pass.Pass.view l.pass).front + length (drop l.each-index l.done) ≤ 2 ^ 38;
  freed : all_freed (g.Y.Yard.setting l.yard).plan.limit l.txn l.first (drop l.each-index l.done) (g.Y.Pass.Pass.view l.pass).front
      ≡ all_freed (g.Y.Yard.setting l.yard).plan.limit l.txn true l.fn.done (g.Y.Pass.Pass.view l.fn.pass).front;
}
