use Rattle.std.proofs.Common.{refl, arith}
use Rattle.std.specs.Fmt.{digits}
use Rattle.lt_trace.proofs.GeneratorLaws.{generated_is_trace}
use Rattle.lt_trace.proofs.laws.generator_rows.Goals as goal

pub returns : goal.returns
unfolding digits
returns c = record {
  state = refl;
  number = refl;
  kind = refl;
  tree = refl;
  key = refl;
  digits = refl;
  text = (generated_is_trace 0 1 1 (omega arith) (omega arith) (omega arith), refl);
}
