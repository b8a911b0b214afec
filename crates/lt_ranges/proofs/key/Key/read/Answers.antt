use Rattle.std.proofs.Common.{rules, ◌≡◌, ◌≢◌, ℕ, List, ◌-◌, ◌≤◌, length, take, [], ◌∷◌, ◌++◌, get_or, arith}
use Rattle.lt_ranges.specs.TextFault.{IsTextFault}
use Rattle.lt_ranges.proofs.QuotingLaws.{starred_by_end}
use Rattle.lt_ranges.proofs.TextFaultLaws.{fault_with_star, fault_without_star}
use Rattle.lt_ranges.proofs.key.Key.read.Goals as goal

pub returns-in_err-bytes-in-42-clause-fault : goal.returns-in_err-bytes-in-42-clause-fault
returns-in_err-bytes-in-42-clause-fault c =
    let text : List ℕ = c.args.text.now in
    let starred : text ≡ take (length text - 1) text ++ 42 ∷ [] = grind (arith, starred_by_end c.args.text.now) in
    let wrong : IsTextFault text c.in_err-bytes-in-42.field-0.0 = fault_with_star text (take (length text - 1) text) _ starred c.in_err-bytes-in-42.ensures.fault in
    search rules

pub returns-in_err-bytes-in_default-clause-fault : goal.returns-in_err-bytes-in_default-clause-fault
returns-in_err-bytes-in_default-clause-fault c =
    let text : List ℕ = c.args.text.now in
    let below : text ≢ 45 ∷ [] = λ e. grind arith in
    let above : text ≢ 43 ∷ [] = λ e. grind arith in
    let plain : 1 ≤ length text → get_or text (length text - 1) 0 ≢ 42 = λ some e. grind arith in
    let wrong : IsTextFault text c.in_err-bytes-in_default.field-0.0 = fault_without_star text _ below above plain c.in_err-bytes-in_default.ensures.fault in
    search rules
