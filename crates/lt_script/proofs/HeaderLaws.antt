-- Faults of the header.
use Rattle.std.proofs.Common.{◌≡◌, ℕ, ◌+◌, ◌≤◌, List, [], ◌∷◌, ◌++◌, length, Some, sym, ap, subst, ◌∙◌, arith}
use Rattle.std.proofs.lemmas.Bool.Decides.{nat_tests}
use Rattle.std.proofs.lemmas.List.{append-nil}
use Rattle.lt_trace.specs.declared.fault.TraceFault.{TraceFault}
use Rattle.lt_trace.specs.declared.fault.TraceFault.TheVariants as fault
use Rattle.lt_trace.specs.Grammar.{HeaderForm, header_text, AreInForm, next_form, IsNoHeader, TextLine, first_line, IsFirst, fault_of_text as trace_fault_of_text, IsHeaderFault as IsTraceHeaderFault}
use Rattle.lt_script.specs.Grammar.{most_lines, header_forms, fault_of_text, Front, HasFault, IsHeaderFault, IsFirstFault}

-- the bounds on lines of traces and of scripts are far behind the header
same_fault : (number : ℕ) (text : TextLine) → number ≤ most_lines → trace_fault_of_text number text ≡ fault_of_text number text
same_fault number text low = grind (arith, nat_tests)

pub script_fault : (form : HeaderForm) (number : ℕ) (bytes : List ℕ) (f : TraceFault) → number ≤ most_lines
    → IsTraceHeaderFault form number bytes f → IsHeaderFault form number bytes f
script_fault form number [] f low is = is
script_fault form number (b ∷ bs) f low is =
    subst (λ o. IsFirst o (λ g. IsNoHeader form (first_line (b ∷ bs)).bytes × (g ≡ fault.BadHeader number)) f)
    (same_fault number (first_line (b ∷ bs)) low) is

-- behind header lines without a fault, the next one's fault is the first
pub header_fault : (ns : List ℕ) (form : HeaderForm) (bytes rest : List ℕ) (f : TraceFault) → next_form header_forms ns ≡ Some form
    → AreInForm header_forms ns → bytes ≡ header_text header_forms ns ++ rest → IsHeaderFault form (1 + length ns) rest f
    → IsFirstFault bytes f
header_fault ns form bytes rest f next in_form is wrong =
    let front : Front = record { header = ns; moves = [] } in (
      front,
      rest,
      record { header = in_form; body = tt },
      is ∙ ap (λ xs. xs ++ rest) (sym (append-nil (header_text header_forms ns))),
      subst (λ o. HasFault o front rest f) (sym next) wrong,
    )
