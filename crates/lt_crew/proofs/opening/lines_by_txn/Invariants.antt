use Rattle.std.proofs.Common.{◌≡◌, ℕ, [], take}
use Rattle.std.specs.Option.{option_map_or}
use Rattle.std.specs.BTreeMap.{get}
use Rattle.std.specs.Ordering.{nat_cmp}
use Rattle.lt_runner.specs.Plays.{own_of}
use Rattle.lt_crew.proofs.opening.lines_by_txn.Given as goal

-- each has its own of the lines so far
abbrev pub invariant-loop-line : goal.invariant-loop-line
invariant-loop-line l = (txn : ℕ) → option_map_or (λ own. own.items) (get nat_cmp l.by_txn txn) [] ≡ own_of txn (take l.line-index l.lines)
