use Rattle.std.proofs.Common.{refl, subst}
use Rattle.lt_crew.specs.RunCrew.{SomeLeft}
use Rattle.lt_crew.proofs.rounds.play_rounds.Goals as goal

pub play_round-requires-clause-left : goal.play_round-requires-clause-left
play_round-requires-clause-left g c κs within = subst SomeLeft c.deref.ensures.value (c.loop-alloc-test.ensures.left refl)
