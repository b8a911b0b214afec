use Rattle.lt_script.proofs.ExactLaws.{of_a_script, of_a_fault}
use Rattle.lt_script.proofs.reading.read.Goals as goal

pub returns-clause-of_a_script : goal.returns-clause-of_a_script
returns-clause-of_a_script c = of_a_script c.args.bytes.now c.read_script.result c.read_script.ensures.read c.read_script.ensures.refused

pub returns-clause-of_a_fault : goal.returns-clause-of_a_fault
returns-clause-of_a_fault c = of_a_fault c.args.bytes.now c.read_script.result c.read_script.ensures.read c.read_script.ensures.refused
