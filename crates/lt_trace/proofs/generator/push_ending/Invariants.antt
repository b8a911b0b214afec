use Rattle.std.proofs.Common.{◌≡◌, ◌++◌}
use Rattle.lt_trace.specs.Generator.{ending_lines}
use Rattle.lt_trace.proofs.generator.push_ending.Given as goal

abbrev pub invariant-loop-index : goal.invariant-loop-index
invariant-loop-index l = l.out.items ≡ l.fn.out.items ++ ending_lines l.index l.lines
