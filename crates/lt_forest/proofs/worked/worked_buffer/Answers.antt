use Rattle.lt_forest.proofs.WorkedBuffer as buffer
use Rattle.lt_forest.proofs.worked.worked_buffer.Goals as goal

pub returns : goal.returns
returns c = buffer.worked_buffer
