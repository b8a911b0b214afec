use Rattle.lt_runner.specs.Played.{IsOver}
use Rattle.lt_crew.proofs.PairLaws.{below_each}
use Rattle.lt_crew.proofs.rounds.are_over.Goals as goal

pub returns-clause-over : goal.returns-clause-over
returns-clause-over c = λ over. below_each IsOver c.loop-turn.turn-index c.args.turns.now c.loop-turn.invariant c.loop-turn-test.false
