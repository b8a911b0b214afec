use Rattle.lt_forest.proofs.PublicLaws.{given_are_named_within, chain_is_named_within, given_are_named_by_held, chain_is_named_by_held}
use Rattle.lt_forest.proofs.laws.rows_that_are_given.Goals as goal

pub returns : goal.returns
returns c = record {
  part = given_are_named_within;
  buffer = chain_is_named_within;
  held_part = given_are_named_by_held;
  held_buffer = chain_is_named_by_held;
}
