use Rattle.std.proofs.Common.{ap, ◌∙◌}
use Rattle.lt_trace.specs.Grammar.{first_line}
use Rattle.lt_trace.proofs.CutLaws.{first_line_all, first_line_cut}
use Rattle.lt_trace.proofs.text_line.next_line.Goals as goal

pub returns-in-Some-clause-line : goal.returns-in-Some-clause-line
returns-in-Some-clause-line c = ap first_line c.in-Some.ensures.1 ∙ first_line_cut c.in-Some.line.now c.in-Some.rest.now c.in-Some.ensures.0

pub returns-in-None-clause-line : goal.returns-in-None-clause-line
returns-in-None-clause-line c = first_line_all c.args.bytes.now c.in-None.ensures
