use Rattle.std.proofs.Common.{◌≡◌, ◌++◌, drop}
use Rattle.std.specs.List.{flat_map}
use Rattle.lt_history.specs.Text.{event_line}
use Rattle.lt_history.proofs.transcript.push_events.Given as goal

-- with what is left it is all
abbrev pub invariant-loop-receipt : goal.invariant-loop-receipt
invariant-loop-receipt l = l.out.items ++ flat_map event_line (drop l.receipt-index l.receipts) ≡ l.fn.out.items ++ flat_map event_line l.receipts
