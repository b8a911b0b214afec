-- Closed walks in a graph of those that wait.
use Rattle.std.specs.Prelude.{◌≡◌, ℕ, zero, suc, ◌≤◌, List, [], ◌∷◌, map, filter, length, Option, Some, None, ◌==◌, if◌then◌else◌, IsTrue, Contains}
use Rattle.std.specs.List.{flat_map}
use Rattle.std.specs.Ordering.{nat_cmp, is_le}
use Rattle.std.specs.Cmp.Lexicographic.{slice_cmp}
use Rattle.lt_waits.specs.declared.wait.Wait.{Wait}

-- the first waits for the second
abbrev pub IsEdge : List Wait → ℕ → ℕ → Type 0
IsEdge edges waiter holder = Contains edges (record { waiter = waiter; holder = holder })

-- a way goes from one over these numbers, of which each waits for the next, to the other, its last
abbrev pub IsWay : List Wait → ℕ → List ℕ → ℕ → Type 0
IsWay edges from [] to = from ≡ to
IsWay edges from (next ∷ more) to = IsEdge edges from next × IsWay edges next more to

-- a walk of one edge or more from the transaction back to it, both named
abbrev pub IsClosedWalk : List Wait → ℕ → List ℕ → Type 0
IsClosedWalk edges txn [] = ⊥
IsClosedWalk edges txn (first ∷ []) = ⊥
IsClosedWalk edges txn (first ∷ next ∷ more) = (first ≡ txn) × IsWay edges txn (next ∷ more) txn

abbrev pub HasNoClosedWalk : List Wait → ℕ → Type 0
HasNoClosedWalk edges txn = (walk : List ℕ) → IsClosedWalk edges txn walk → ⊥

-- the one list of numbers comes no later than the other, compared number by number
abbrev pub IsAtMost : List ℕ → List ℕ → Type 0
IsAtMost one other = IsTrue (is_le (slice_cmp nat_cmp one other))

-- a closed walk; none has fewer edges, and none with as few a lesser list of numbers
pub record IsLeastWalk (edges : List Wait) (txn : ℕ) (walk : List ℕ) : Type 0 where
  pub closed : IsClosedWalk edges txn walk
  pub fewest : (other : List ℕ) → IsClosedWalk edges txn other → length walk ≤ length other
  pub least : (other : List ℕ) → IsClosedWalk edges txn other → length other ≡ length walk → IsAtMost walk other

-- The same walk computed, from all ways of one edge, of two, and so on.

-- all ways of so many edges
abbrev pub ways : ℕ → List Wait → ℕ → ℕ → List (List ℕ)
ways zero edges from to = if from == to then [] ∷ [] else []
ways (suc n) edges from to = flat_map (λ e. map (λ way. e.holder ∷ way) (ways n edges e.holder to)) (filter (λ e. e.waiter == from) edges)

abbrev pub least_from : List ℕ → List (List ℕ) → List ℕ
least_from best [] = best
least_from best (way ∷ ways) = least_from (if is_le (slice_cmp nat_cmp best way) then best else way) ways

-- the least list of these, or the other where there is none
abbrev pub least_of : List (List ℕ) → Option (List ℕ) → Option (List ℕ)
least_of [] other = other
least_of (way ∷ ways) other = Some (least_from way ways)

-- the least way back among those with the fewest edges: tries n numbers of edges, from this one on
abbrev pub shortest : ℕ → ℕ → List Wait → ℕ → Option (List ℕ)
shortest zero count edges txn = None
shortest (suc n) count edges txn = least_of (map (λ way. txn ∷ way) (ways count edges txn txn)) (shortest n (suc count) edges txn)

-- the least walk, which has no more edges than the graph
abbrev pub least_walk : List Wait → ℕ → Option (List ℕ)
least_walk edges txn = shortest (length edges) 1 edges txn
