use Rattle.std.proofs.Common.{◌≡◌, ◌++◌, drop}
use Rattle.std.specs.List.{flat_map}
use Rattle.lt_history.specs.Text.{ended_line}
use Rattle.lt_history.proofs.transcript.push_outcomes.Given as goal

abbrev pub invariant-loop-ended : goal.invariant-loop-ended
invariant-loop-ended l = l.out.items ++ flat_map ended_line (drop l.ended-index l.outcomes) ≡ l.fn.out.items ++ flat_map ended_line l.outcomes
