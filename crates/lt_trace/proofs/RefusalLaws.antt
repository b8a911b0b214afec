-- What a refusal names, unless memory ran out.
use Rattle.lt_trace.specs.declared.fault.TraceFault.{TraceFault}
use Rattle.lt_trace.specs.declared.fault.TraceFault.TheVariants as fault
use Rattle.lt_trace.specs.Grammar.{OrNoMemory}

pub or_no_memory : (Is : TraceFault → Type 0) (f : TraceFault) → Is f → OrNoMemory Is f
or_no_memory Is fault.OutOfMemory is = tt
or_no_memory Is f is = is

pub or_no_memory_on : (Is Then : TraceFault → Type 0) → ((f : TraceFault) → Is f → Then f) → (f : TraceFault) → OrNoMemory Is f → OrNoMemory Then f
or_no_memory_on Is Then on fault.OutOfMemory is = tt
or_no_memory_on Is Then on f is = on f is
