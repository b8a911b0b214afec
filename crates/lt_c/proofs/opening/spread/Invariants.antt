use Rattle.lt_c.proofs.OpeningLaws.{AreSpread}
use Rattle.lt_c.proofs.opening.spread.Given as goal

abbrev pub invariant-loop-pass : goal.invariant-loop-pass
invariant-loop-pass l = AreSpread l.table l.first l.pass-iterator.rest.items l.made.items
