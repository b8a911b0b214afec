use Rattle.std.proofs.Common.{◌≡◌, ◌++◌, ◌-◌, take, replicate}
use Rattle.lt_ranges.proofs.packing.fill.Given as goal

-- the bytes so far, and the filling behind them
abbrev pub invariant-loop-i : goal.invariant-loop-i
invariant-loop-i l = l.all ≡ take l.i l.bytes ++ replicate (64 - l.i) l.filling
