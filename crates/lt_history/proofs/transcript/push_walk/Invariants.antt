use Rattle.std.proofs.Common.{◌≡◌, ◌++◌, drop}
use Rattle.lt_history.specs.Text.{walk_text}
use Rattle.lt_history.proofs.transcript.push_walk.Given as goal

abbrev pub invariant-loop-edge : goal.invariant-loop-edge
invariant-loop-edge l = l.out.items ++ walk_text (drop l.edge-index l.edges) ≡ l.fn.out.items ++ walk_text l.edges
