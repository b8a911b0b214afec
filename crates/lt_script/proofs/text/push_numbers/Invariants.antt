use Rattle.std.proofs.Common.{◌≡◌, ◌++◌, drop}
use Rattle.std.specs.List.{flat_map}
use Rattle.lt_ranges.specs.KeyText.{spaced}
use Rattle.lt_script.proofs.text.push_numbers.Given as goal

-- with what is left it is all
abbrev pub invariant-loop-number : goal.invariant-loop-number
invariant-loop-number l = l.text.items ++ flat_map spaced (drop l.number-index l.numbers) ≡ l.fn.text.items ++ flat_map spaced l.numbers
