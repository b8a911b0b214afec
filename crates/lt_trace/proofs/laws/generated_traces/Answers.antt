use Rattle.lt_trace.proofs.GeneratorLaws.{generated_is_trace}
use Rattle.lt_trace.proofs.laws.generated_traces.Goals as goal

pub returns : goal.returns
returns c = λ seed txns lines some few low. generated_is_trace seed txns lines some few low
