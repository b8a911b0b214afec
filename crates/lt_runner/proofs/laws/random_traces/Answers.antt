use Rattle.std.proofs.Common.{refl}
use Rattle.std.specs.Fmt.{digits}
use Rattle.lt_ranges.specs.Key.{key_le}
use Rattle.lt_runner.specs.Serial.{swept_if_released}
use Rattle.lt_runner.proofs.laws.random_traces.Goals as goal

pub returns : goal.returns
unfolding key_le swept_if_released digits
returns c = record {
  run_0 = refl;
  run_1 = refl;
  run_2 = refl;
  run_3 = refl;
  run_4 = refl;
  run_5 = refl;
  run_6 = refl;
  run_7 = refl;
  run_8 = refl;
  run_9 = refl;
  run_10 = refl;
  run_11 = refl;
  run_12 = refl;
  run_13 = refl;
}
