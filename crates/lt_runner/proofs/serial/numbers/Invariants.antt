use Rattle.std.proofs.Common.{◌≡◌, drop, map}
use Rattle.std.specs.List.{fold}
use Rattle.lt_ranges.specs.Numbers.{with_number}
use Rattle.lt_trace.specs.Grammar.{txns_of}
use Rattle.lt_runner.proofs.serial.numbers.Given as goal

-- what is left goes on from here
abbrev pub invariant-loop-line : goal.invariant-loop-line
invariant-loop-line l = fold (λ list n. with_number n list) l.numbers.keys (map (λ line. line.txn) (drop l.line-index l.lines)) ≡ txns_of l.lines
