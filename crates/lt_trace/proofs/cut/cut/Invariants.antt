use Rattle.std.proofs.Common.{take}
use Rattle.lt_trace.specs.Cut.{Lacks}
use Rattle.lt_trace.proofs.cut.cut.Given as goal

abbrev pub invariant-loop-i : goal.invariant-loop-i
invariant-loop-i l = Lacks l.byte (take l.i l.text)
