use Rattle.std.proofs.Common.{◌≡◌, List, ℕ, ◌++◌, [], ◌∷◌, Result, Ok, Err, IfErr, refl, codes, append_assoc, rules, lit≤}
use Rattle.std.proofs.lemmas.Result.{err_from_is_err_and}
use Rattle.lt_trace.specs.declared.fault.TraceFault.{TraceFault}
use Rattle.lt_trace.specs.Grammar.{HeaderForm, header_text}
use Rattle.lt_script.specs.Grammar.{header_forms}
use Rattle.lt_script.proofs.HeaderLaws.{header_fault, script_fault}
use Rattle.lt_script.proofs.header.read_header.Goals as goal

abbrev version : HeaderForm
version = record { word = codes "rangestore"; least = 1; most = 1 }

abbrev limit : HeaderForm
limit = record { word = codes "limit"; least = 1; most = 65536 }

if_err_on : {A : Type 0} (P Q : TraceFault → Type 0) (r : Result A TraceFault) → ((f : TraceFault) → P f → Q f) → IfErr r P → IfErr r Q
if_err_on P Q (Ok value) on is = tt
if_err_on P Q (Err f) on is = on f is

pub returns-in_err-rest-clause-fault : goal.returns-in_err-rest-clause-fault
returns-in_err-rest-clause-fault c =
    let p = err_from_is_err_and c.from_residual.result c.from_residual.ensures.1 in
    let bytes = c.args.bytes.now in
    rw (p.1, p.2) (header_fault [] version bytes bytes _ refl tt refl
    (script_fault version 1 bytes c.in_err-rest.field-0.0 (lit≤ tt) c.in_err-rest.ensures.fault))

pub returns-clause-fault : goal.returns-clause-fault
returns-clause-fault c =
    let v = c.in_ok-rest in
    let ns : List ℕ = 1 ∷ [] in
    let is : c.args.bytes.now ≡ header_text header_forms ns ++ v.rest.now = search (rules, append_assoc, v.ensures.found) in
    if_err_on _ _ c.header_line-2.result
    (λ f wrong. header_fault ns limit c.args.bytes.now v.rest.now f refl (lit≤ tt, lit≤ tt, tt) is
    (script_fault limit 2 v.rest.now f (lit≤ tt) wrong)) c.header_line-2.ensures.fault
