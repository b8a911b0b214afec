use Rattle.std.proofs.Common.{◌≡◌, ◌++◌}
use Rattle.lt_trace.specs.Generator.{state_after, drawn_lines}
use Rattle.lt_trace.proofs.generator.push_drawn.Given as goal

-- so many steps, and so many lines
abbrev pub invariant-loop-index : goal.invariant-loop-index
invariant-loop-index l = record {
  state : l.state ≡ state_after l.fn.seed l.index;
  lines : l.out.items ≡ l.fn.out.items ++ drawn_lines l.fn.seed l.txns l.index;
}
