use Rattle.lt_runner.specs.Played.{IsOver}
use Rattle.lt_crew.specs.Workers.{AllBelow}
use Rattle.lt_crew.proofs.rounds.are_over.Given as goal

abbrev pub invariant-loop-turn : goal.invariant-loop-turn
invariant-loop-turn l = AllBelow IsOver l.turn-index l.turns
