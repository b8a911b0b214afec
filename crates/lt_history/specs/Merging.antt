-- The lists of all passes as one.
use Rattle.std.specs.Prelude.{◌≡◌, List}
use Rattle.std.specs.List.{flat_map}
use Rattle.std.specs.List.Sorted.{IsPermutation, IsNonDecreasingBy}
use Rattle.lt_seq.specs.declared.event.Event.{Event}
use Rattle.lt_seq.specs.declared.event.Receipt.{Receipt}
use Rattle.lt_seq.specs.Table.{Setting}
use Rattle.lt_seq.specs.History.{IsLegal}
use Rattle.lt_seq.specs.Questions.{all_receipts}
use Rattle.lt_seq.specs.Passes.{lists_of}

-- The receipts of a legal history's passes, by ascending place, are those of the history: there is one such list.
abbrev pub MergedIsHistory : Type 0
MergedIsHistory =
    (setting : Setting) (history : List Event) (merged : List Receipt) → IsLegal setting history
    → IsPermutation (flat_map (λ list. list) (lists_of setting history)) merged → IsNonDecreasingBy (λ r. r.place) merged
    → merged ≡ all_receipts setting.plan.first history
