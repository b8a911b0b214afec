use Rattle.lt_manager.proofs.BuildLaws.{AreMade}
use Rattle.lt_manager.proofs.building.bare_passes.Given as goal

abbrev pub invariant-loop-pass : goal.invariant-loop-pass
invariant-loop-pass l = AreMade l.fn._table l.fn.passes.items l.pass-iterator.rest.items l.made.items
