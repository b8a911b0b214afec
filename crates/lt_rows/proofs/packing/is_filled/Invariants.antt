use Rattle.std.proofs.Common.{ℕ, ◌*◌, ◌-◌, ◌<◌, slice_index}
use Rattle.lt_rows.specs.Packing.{EndsIn}
use Rattle.lt_rows.proofs.packing.is_filled.Given as goal

-- the words so far are filled
abbrev pub invariant-loop-i : goal.invariant-loop-i
invariant-loop-i l = (k : ℕ) → k < l.i → EndsIn (slice_index l.words k) (l.count - 8 * k) l.filling
