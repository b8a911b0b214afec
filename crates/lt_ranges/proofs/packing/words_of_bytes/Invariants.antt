use Rattle.std.proofs.Common.{◌≡◌, length, take, map}
use Rattle.std.specs.Int.{w64, from_be_bytes}
use Rattle.lt_ranges.proofs.packing.words_of_bytes.Given as goal

-- the words so far
abbrev pub invariant-loop-i : goal.invariant-loop-i
invariant-loop-i l = (length l.words ≡ 8) × (take l.i l.words ≡ map (from_be_bytes w64) (take l.i l.chunks))
