use Rattle.std.proofs.Common.{◌≡◌, List, ℕ, ◌++◌, [], ◌∷◌, refl, append_assoc, rules}
use Rattle.std.proofs.lemmas.Result.{err_from_is_err_and}
use Rattle.lt_trace.specs.Grammar.{header_forms, header_text}
use Rattle.lt_trace.proofs.HeaderLaws.{header_fault}
use Rattle.lt_trace.proofs.header.read_header.Goals as goal

pub returns-in_err-version-clause-fault : goal.returns-in_err-version-clause-fault
returns-in_err-version-clause-fault c =
    let p = err_from_is_err_and c.from_residual.result c.from_residual.ensures.1 in
    rw (p.1, p.2) (header_fault [] _ c.args.bytes.now c.args.bytes.now _ refl tt refl c.in_err-version.ensures.fault)

pub returns-in_err-trees-clause-fault : goal.returns-in_err-trees-clause-fault
returns-in_err-trees-clause-fault c =
    let p = err_from_is_err_and c.from_residual-in_err-trees.result c.from_residual-in_err-trees.ensures.1 in
    let v = c.in_ok-version in
    let is : c.args.bytes.now ≡ header_text header_forms (v.version ∷ []) ++ v.rest.now = search (rules, append_assoc, v.ensures.found) in
    rw (p.1, p.2) (header_fault (v.version ∷ []) _ c.args.bytes.now v.rest.now _ refl (v.ensures.found.0, v.ensures.found.1, tt) is c.in_err-trees.ensures.fault)

pub returns-in_err-limit-clause-fault : goal.returns-in_err-limit-clause-fault
returns-in_err-limit-clause-fault c =
    let p = err_from_is_err_and c.from_residual-in_err-limit.result c.from_residual-in_err-limit.ensures.1 in
    let v = c.in_ok-version in
    let t = c.in_ok-trees in
    let ns : List ℕ = v.version ∷ t.trees ∷ [] in
    let is : c.args.bytes.now ≡ header_text header_forms ns ++ t.rest.now = search (rules, append_assoc, v.ensures.found, t.ensures.found) in
    rw (p.1, p.2) (header_fault ns _ c.args.bytes.now t.rest.now _ refl (v.ensures.found.0, v.ensures.found.1, (t.ensures.found.0, t.ensures.found.1, tt)) is c.in_err-limit.ensures.fault)

pub returns-in_err-buffer-clause-fault : goal.returns-in_err-buffer-clause-fault
returns-in_err-buffer-clause-fault c =
    let p = err_from_is_err_and c.from_residual-in_err-buffer.result c.from_residual-in_err-buffer.ensures.1 in
    let v = c.in_ok-version in
    let t = c.in_ok-trees in
    let l = c.in_ok-limit in
    let ns : List ℕ = v.version ∷ t.trees ∷ l.limit ∷ [] in
    let is : c.args.bytes.now ≡ header_text header_forms ns ++ l.rest.now = search (rules, append_assoc, v.ensures.found, t.ensures.found, l.ensures.found) in
    rw (p.1, p.2) (header_fault ns _ c.args.bytes.now l.rest.now _ refl (v.ensures.found.0, v.ensures.found.1, (t.ensures.found.0, t.ensures.found.1, (l.ensures.found.0, l.ensures.found.1, tt))) is c.in_err-buffer.ensures.fault)
