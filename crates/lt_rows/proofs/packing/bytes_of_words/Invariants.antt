use Rattle.std.proofs.Common.{◌≡◌, length, map, take}
use Rattle.std.specs.Int.{w64, to_be_bytes}
use Rattle.lt_rows.proofs.packing.bytes_of_words.Given as goal

-- the words so far
abbrev pub invariant-loop-i : goal.invariant-loop-i
invariant-loop-i l = (length l.chunks ≡ 8) × (take l.i l.chunks ≡ map (to_be_bytes w64) (take l.i l.words))
