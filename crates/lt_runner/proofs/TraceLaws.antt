-- What a trace gives its runner.
use Rattle.std.proofs.Common.{◌≡◌, ℕ, ◌+◌, ◌≤◌, List, [], ◌∷◌, ◌++◌, Bool, true, false, Option, Some, None, nat_lt, if◌then◌else◌, length, refl, arith}
use Rattle.std.proofs.lemmas.Bool.Decides.{nat_tests}
use Rattle.std.proofs.lemmas.List.{length-append}
use Rattle.lt_trace.specs.declared.line.Line.{Line}
use Rattle.lt_trace.specs.declared.fault.TraceFault.{TraceFault}
use Rattle.lt_trace.specs.Trace.{TraceView}
use Rattle.lt_trace.specs.Grammar.{IsTrace, IsBody, AreFaultless, whole}

-- a row of the table of faults that does not apply
not_first : (b : Bool) (fault : TraceFault) (rest : Option TraceFault) → (if b then Some fault else rest) ≡ None → b ≡ false
not_first true fault rest e = cc
not_first false fault rest e = refl

few_after : (header : List ℕ) (before lines : List Line) → AreFaultless header before lines → length before ≤ 65536 → length before + length lines ≤ 65536
few_after header before [] all few = omega arith
few_after header before (line ∷ lines) all few =
    let low : nat_lt 65540 line.number ≡ false = not_first _ _ _ all.0.text in
    let number : line.number ≤ 65540 = grind (arith, nat_tests) in
    let rest = few_after header (before ++ line ∷ []) lines all.1 (omega (arith, all.0.number, length-append before (line ∷ []))) in
    omega (arith, length-append before (line ∷ []))

few_in : (header : List ℕ) (lines : List Line) → IsBody header lines → length lines ≤ 65536
few_in header [] body = omega arith
few_in header (line ∷ lines) body = omega (arith, few_after header [] (line ∷ lines) body.1 (omega arith))

-- and there are few
pub few_lines : (trace : TraceView) → IsTrace trace → length trace.lines ≤ 65536
few_lines trace front = few_in (whole trace).header trace.lines front.body
