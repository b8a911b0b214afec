use Rattle.std.proofs.Common.{◌≡◌, ℕ, List, ◌-◌, length, take, drop, [], ◌∷◌, ◌++◌, arith}
use Rattle.lt_ranges.specs.KeyText.{spelled}
use Rattle.lt_ranges.proofs.QuotingLaws.{quoted_begins, quoted_length, quoted_ends, quoted_by_ends}
use Rattle.lt_ranges.proofs.TextFaultLaws.{fault_around}
use Rattle.lt_ranges.proofs.reading.read_quoted.Goals as goal

pub returns-in-34-clause-fault : goal.returns-in-34-clause-fault
returns-in-34-clause-fault c =
    let text : List ℕ = c.args.text.now in
    let inside : List ℕ = take (length text - 1 - 1) (drop 1 text) in
    let whole : text ≡ 34 ∷ (inside ++ 34 ∷ []) = grind (arith, quoted_by_ends c.args.text.now) in
    fault_around text inside c.read_spelled.result whole c.read_spelled.ensures.fault

pub returns-in_default-clause-fault : goal.returns-in_default-clause-fault
returns-in_default-clause-fault c bytes are same =
    let begins = quoted_begins c.args.text.now (spelled bytes) same in
    let long = quoted_length c.args.text.now (spelled bytes) same in
    let ends = quoted_ends c.args.text.now (spelled bytes) same in
    grind arith
