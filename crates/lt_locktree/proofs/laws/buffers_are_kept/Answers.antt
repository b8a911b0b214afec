use Rattle.lt_locktree.proofs.OwnBuffers.{own_who_keeps_buffer}
use Rattle.lt_locktree.proofs.laws.buffers_are_kept.Goals as goal

pub returns : goal.returns
returns c = own_who_keeps_buffer
