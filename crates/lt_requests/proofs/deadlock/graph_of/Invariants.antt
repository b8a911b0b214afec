use Rattle.std.proofs.Common.{◌≡◌, take}
use Rattle.lt_requests.specs.Walks.{waits_of}
use Rattle.lt_requests.proofs.deadlock.graph_of.Given as goal

abbrev pub invariant-loop-edge : goal.invariant-loop-edge
invariant-loop-edge l = l.graph ≡ waits_of (take l.edge-index l.edges)
