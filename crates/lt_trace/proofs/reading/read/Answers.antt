use Rattle.lt_trace.proofs.ExactLaws.{of_a_trace, of_a_fault}
use Rattle.lt_trace.proofs.reading.read.Goals as goal

pub returns-clause-of_a_trace : goal.returns-clause-of_a_trace
returns-clause-of_a_trace c = of_a_trace c.args.bytes.now c.read_trace.result c.read_trace.ensures.read c.read_trace.ensures.refused

pub returns-clause-of_a_fault : goal.returns-clause-of_a_fault
returns-clause-of_a_fault c = of_a_fault c.args.bytes.now c.read_trace.result c.read_trace.ensures.read c.read_trace.ensures.refused
