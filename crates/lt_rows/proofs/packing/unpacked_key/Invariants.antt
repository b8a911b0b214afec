use Rattle.std.proofs.Common.{◌≡◌, length, take}
use Rattle.lt_rows.proofs.packing.unpacked_key.Given as goal

-- the words so far
abbrev pub invariant-loop-i : goal.invariant-loop-i
invariant-loop-i l = (length l.copied ≡ 8) × (take l.i l.copied ≡ take l.i l.words)
