-- The deadlock that the edges of a search show.
use Rattle.std.specs.Prelude.{ℕ, List, [], ◌∷◌, ◌++◌, map, find, Option, option_map, option_to_list, ◌==◌, ◌&&◌}
use Rattle.lt_waits.specs.declared.wait.Wait.{Wait}
use Rattle.lt_waits.specs.Walks.{least_walk}
use Rattle.lt_requests.specs.declared.cycle.Edge.{Edge}

-- who waits for whom by these edges
abbrev pub waits_of : List Edge → List Wait
waits_of edges = map (λ e. record { waiter = e.waiter; holder = e.holder }) edges

-- the first edge from the one to the other
abbrev pub edge_between : List Edge → ℕ → ℕ → Option Edge
edge_between edges waiter holder = find (λ e. e.waiter == waiter && e.holder == holder) edges

-- the edges that a walk goes along
abbrev pub edges_along : List Edge → List ℕ → List Edge
edges_along edges [] = []
edges_along edges (last ∷ []) = []
edges_along edges (from ∷ to ∷ more) = option_to_list (edge_between edges from to) ++ edges_along edges (to ∷ more)

-- the edges of the least closed walk through the transaction
abbrev pub cycle_of : List Edge → ℕ → Option (List Edge)
cycle_of edges txn = option_map (λ walk. edges_along edges walk) (least_walk (waits_of edges) txn)
