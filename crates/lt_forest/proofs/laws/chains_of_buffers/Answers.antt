use Rattle.lt_forest.proofs.PublicLaws.{chain_shows_buffer, front_is_granted}
use Rattle.lt_forest.proofs.laws.chains_of_buffers.Goals as goal

pub returns : goal.returns
returns c = record {
  shown = chain_shows_buffer;
  front = front_is_granted;
}
