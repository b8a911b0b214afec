-- Faults of the header.
use Rattle.std.proofs.Common.{◌≡◌, ℕ, ◌+◌, List, [], ◌++◌, Some, length, sym, ap, subst, ◌∙◌}
use Rattle.std.proofs.lemmas.List.{append-nil}
use Rattle.lt_trace.specs.declared.fault.TraceFault.{TraceFault}
use Rattle.lt_trace.specs.Grammar.{HeaderForm, header_forms, header_text, AreInForm, next_form, Front, HasFault, IsHeaderFault, IsFirstFault}

-- behind header lines without a fault, the next one's fault is the first
pub header_fault : (ns : List ℕ) (form : HeaderForm) (bytes rest : List ℕ) (f : TraceFault) → next_form header_forms ns ≡ Some form → AreInForm header_forms ns → bytes ≡ header_text header_forms ns ++ rest → IsHeaderFault form (1 + length ns) rest f → IsFirstFault bytes f
header_fault ns form bytes rest f next in_form is wrong =
    let front : Front = record { header = ns; lines = [] } in (
      front,
      rest,
      record { header = in_form; body = tt },
      is ∙ ap (λ xs. xs ++ rest) (sym (append-nil (header_text header_forms ns))),
      subst (λ o. HasFault o front rest f) (sym next) wrong,
    )
