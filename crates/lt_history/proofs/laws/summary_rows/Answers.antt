use Rattle.std.proofs.Common.{refl}
use Rattle.std.specs.Fmt.{digits}
use Rattle.lt_history.proofs.laws.summary_rows.Goals as goal

pub returns : goal.returns
unfolding digits
returns c = record { nothing = refl; one_ask = refl; every_kind = refl }
