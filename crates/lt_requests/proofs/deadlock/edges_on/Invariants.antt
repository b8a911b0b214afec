use Rattle.std.proofs.Common.{◌≡◌, ◌++◌, ◌∷◌, drop}
use Rattle.lt_requests.specs.Walks.{edges_along}
use Rattle.lt_requests.proofs.deadlock.edges_on.Given as goal

abbrev pub invariant-loop-to : goal.invariant-loop-to
invariant-loop-to l = l.along.items ++ edges_along l.edges (l.from ∷ drop l.to-index l.rest) ≡ edges_along l.edges (l.initial.from ∷ l.rest)
