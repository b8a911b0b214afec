use Rattle.std.proofs.Common.{◌≡◌}
use Rattle.lt_seq.specs.Yard.{origin_of}
use Rattle.lt_manager.proofs.tests.play_in.Given as goal

-- the pass is the yard's one, with its right
abbrev pub invariant-loop-call : goal.invariant-loop-call
invariant-loop-call g l = record {
  of : g.Y.Pass.Pass.origin l.pass ≡ origin_of (g.Y.Yard.identity l.yard) (g.Y.Yard.setting l.yard);
  number : (g.Y.Pass.Pass.view l.pass).number ≡ (g.Y.Pass.Pass.view l.initial.pass).number;
  rights : (g.Y.Pass.Pass.view l.pass).rights ≡ (g.Y.Pass.Pass.view l.initial.pass).rights;
}
