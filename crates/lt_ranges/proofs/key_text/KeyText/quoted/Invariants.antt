use Rattle.std.proofs.Common.{◌≡◌, ◌≤◌, ◌+◌, ◌*◌, ◌++◌, length, take}
use Rattle.std.specs.Prelude.{codes}
use Rattle.lt_ranges.specs.KeyText.{spelled}
use Rattle.lt_ranges.proofs.key_text.KeyText.quoted.Given as goal

-- the quotation mark and the bytes so far
abbrev pub invariant-loop-byte : goal.invariant-loop-byte
invariant-loop-byte l =
    (l.text ≡ codes "\"" ++ spelled (take l.byte-index l.byte-items)) × (length l.text ≤ 1 + 4 * l.byte-index)
