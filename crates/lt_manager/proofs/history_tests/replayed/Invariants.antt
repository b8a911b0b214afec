use Rattle.std.proofs.Common.{◌≡◌}
use Rattle.lt_seq.specs.Yard.{origin_of}
use Rattle.lt_manager.proofs.history_tests.replayed.Given as goal

-- the pass is the yard's one, with its right
abbrev pub invariant-loop-receipt : goal.invariant-loop-receipt
invariant-loop-receipt g l = record {
  of : g.Y.Pass.Pass.origin l.pass ≡ origin_of (g.Y.Yard.identity l.yard) (g.Y.Yard.setting l.yard);
  number : (g.Y.Pass.Pass.view l.pass).number ≡ (g.Y.Pass.Pass.view l.initial.pass).number;
  rights : (g.Y.Pass.Pass.view l.pass).rights ≡ (g.Y.Pass.Pass.view l.initial.pass).rights;
}
