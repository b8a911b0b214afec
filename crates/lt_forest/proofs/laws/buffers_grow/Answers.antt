use Rattle.lt_forest.proofs.PublicLaws.{buffer_begins, buffer_grows}
use Rattle.lt_forest.proofs.laws.buffers_grow.Goals as goal

pub returns : goal.returns
returns c = record {
  begins = buffer_begins;
  grows = buffer_grows;
}
