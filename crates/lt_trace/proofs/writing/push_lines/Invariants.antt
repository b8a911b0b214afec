use Rattle.std.proofs.Common.{◌≡◌, ◌++◌, take}
use Rattle.lt_trace.specs.Reading.{body_text}
use Rattle.lt_trace.proofs.writing.push_lines.Given as goal

abbrev pub invariant-loop-line : goal.invariant-loop-line
invariant-loop-line l = l.out.items ≡ l.fn.out.items ++ body_text (take l.line-index l.lines)
