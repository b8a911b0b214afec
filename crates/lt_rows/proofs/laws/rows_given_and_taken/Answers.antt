use Rattle.lt_rows.proofs.GivenRows.{none_is_given_again, taken_is_held}
use Rattle.lt_rows.proofs.laws.rows_given_and_taken.Goals as goal

pub returns : goal.returns
returns c = record {
  given = none_is_given_again;
  taken = taken_is_held;
}
