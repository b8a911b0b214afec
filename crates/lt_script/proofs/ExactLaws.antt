-- What a reader answers that is right both ways.
use Rattle.std.proofs.Common.{◌≡◌, ℕ, ◌⊎◌, inl, inr, List, Result, Ok, Err, IfOk, IfErr, MatchResult, refl}
use Rattle.lt_trace.specs.declared.fault.TraceFault.{TraceFault}
use Rattle.lt_trace.specs.declared.fault.TraceFault.TheVariants as fault
use Rattle.lt_script.specs.Script.{ScriptView}
use Rattle.lt_script.specs.Grammar.{Spells, IsFirstFault, Refuses}
use Rattle.lt_script.proofs.FaultLaws.{spelled_not_refused, one_script, one_fault}

out_of_memory : (bytes : List ℕ) (script : ScriptView) (f : TraceFault) → Spells bytes script → Refuses bytes f → f ≡ fault.OutOfMemory
out_of_memory bytes script fault.OutOfMemory spelled refused = refl
out_of_memory bytes script f spelled refused = absurd (spelled_not_refused bytes script f spelled refused)

first_or_memory : (bytes : List ℕ) (first f : TraceFault) → IsFirstFault bytes first → Refuses bytes f
    → (f ≡ first) ⊎ (f ≡ fault.OutOfMemory)
first_or_memory bytes first fault.OutOfMemory is refused = inr refl
first_or_memory bytes first f is refused = inl (one_fault bytes f first refused is)

pub of_a_script : (bytes : List ℕ) (r : Result ScriptView TraceFault) → IfOk r (Spells bytes) → IfErr r (Refuses bytes)
    → (script : ScriptView) → Spells bytes script → MatchResult r (λ read. read ≡ script) (λ f. f ≡ fault.OutOfMemory)
of_a_script bytes (Ok read) ok err script spelled = one_script bytes read script ok spelled
of_a_script bytes (Err f) ok err script spelled = out_of_memory bytes script f spelled err

pub of_a_fault : (bytes : List ℕ) (r : Result ScriptView TraceFault) → IfOk r (Spells bytes) → IfErr r (Refuses bytes)
    → (first : TraceFault) → IsFirstFault bytes first → MatchResult r (λ read. ⊥) (λ f. (f ≡ first) ⊎ (f ≡ fault.OutOfMemory))
of_a_fault bytes (Ok read) ok err first is = spelled_not_refused bytes read first ok is
of_a_fault bytes (Err f) ok err first is = first_or_memory bytes first f is err
