use Rattle.std.proofs.Common.{◌≡◌, ◌≤◌}
use Rattle.lt_seq.specs.Yard.{origin_of}
use Rattle.lt_requests.specs.Registered.{MayAsk}
use Rattle.lt_requests.proofs.tests.ring.Given as goal

abbrev pub invariant-loop-i : goal.invariant-loop-i
invariant-loop-i g l = record {
  of : g.Y.Pass.Pass.origin l.pass ≡ origin_of (g.Y.Yard.identity l.yard) (g.Y.Yard.setting l.yard);
  right : 1 ≤ (g.Y.Pass.Pass.view l.pass).rights;
  may : MayAsk (g.Y.Yard.setting l.yard).plan.trees l.registry;
}

abbrev pub invariant-loop-i-2 : goal.invariant-loop-i-2
invariant-loop-i-2 g l = record {
  of : g.Y.Pass.Pass.origin l.pass ≡ origin_of (g.Y.Yard.identity l.yard) (g.Y.Yard.setting l.yard);
  right : 1 ≤ (g.Y.Pass.Pass.view l.pass).rights;
  may : MayAsk (g.Y.Yard.setting l.yard).plan.trees l.registry;
}
