use Rattle.std.proofs.Common.{refl}
use Rattle.std.specs.Fmt.{digits}
use Rattle.lt_ranges.specs.Key.{key_le}
use Rattle.lt_runner.specs.Serial.{swept_if_released}
use Rattle.lt_runner.proofs.laws.worked_rows.Goals as goal

pub returns : goal.returns
unfolding key_le swept_if_released digits
returns c = record { given_back = refl; refused = refl; searched = refl; retried = refl; out_of_locks = refl; ended = refl; walked = refl; given_back_whole = refl; joined = refl; by_tree = refl }
