use Rattle.std.proofs.Common.{◌≡◌, take}
use Rattle.lt_requests.specs.Search.{wishes_of}
use Rattle.lt_requests.proofs.registry.Registry.named.Given as goal

abbrev pub invariant-loop-owner : goal.invariant-loop-owner
invariant-loop-owner l = l.named.items ≡ wishes_of (take l.owner-index l.owners) l.self
