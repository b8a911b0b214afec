use Rattle.std.proofs.Common.{refl}
use Rattle.std.specs.Fmt.{digits}
use Rattle.lt_ranges.specs.Key.{key_le}
use Rattle.lt_history.proofs.laws.random_tables.Goals as goal

pub returns : goal.returns
unfolding key_le digits
returns c = record {
  text_0 = refl;
  modes_0 = refl;
  text_1 = refl;
  modes_1 = refl;
  text_2 = refl;
  modes_2 = refl;
  text_3 = refl;
  modes_3 = refl;
  text_4 = refl;
  modes_4 = refl;
  text_5 = refl;
  modes_5 = refl;
  text_6 = refl;
  modes_6 = refl;
  text_7 = refl;
  modes_7 = refl;
  text_8 = refl;
  modes_8 = refl;
  text_9 = refl;
  modes_9 = refl;
  text_10 = refl;
  modes_10 = refl;
  text_11 = refl;
  modes_11 = refl;
  text_12 = refl;
  modes_12 = refl;
  text_13 = refl;
  modes_13 = refl;
  text_14 = refl;
  modes_14 = refl;
  text_15 = refl;
  modes_15 = refl;
  text_16 = refl;
  modes_16 = refl;
  text_17 = refl;
  modes_17 = refl;
  text_18 = refl;
  modes_18 = refl;
  text_19 = refl;
  modes_19 = refl;
}
