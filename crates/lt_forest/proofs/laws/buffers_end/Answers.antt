use Rattle.lt_forest.proofs.PublicLaws.{buffer_ends, buffer_is_dropped}
use Rattle.lt_forest.proofs.laws.buffers_end.Goals as goal

pub returns : goal.returns
returns c = record {
  ends = buffer_ends;
  dropped = buffer_is_dropped;
}
