use Rattle.std.proofs.Common.{◌≡◌, ◌≤◌, ◌-◌, length, take}
use Rattle.std.specs.Io.KnownBytes.{Appends}
use Rattle.lt_edge.proofs.writing.put_all.Given as goal

abbrev pub invariant-puts : goal.invariant-puts
invariant-puts g l =
    Appends (g.K.Sink.taken l.fn.sink) (g.K.Sink.taken l.sink) (take l.at l.bytes)
    × (l.at ≤ length l.bytes)
    × (g.K.Sink.faults l.sink ≡ g.K.Sink.faults l.fn.sink)

abbrev pub decreases-puts : goal.decreases-puts
decreases-puts g l = length l.bytes - l.at
