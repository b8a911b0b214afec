-- The walk that is found is the one that the definition says.
use Rattle.std.proofs.Common.{◌≡◌, ℕ, List, Option, Some, None, refl, ap, subst}
use Rattle.std.specs.Prelude.{MatchOption, option_map}
use Rattle.lt_waits.specs.Walks.{HasNoClosedWalk, IsLeastWalk, least_walk}
use Rattle.lt_waits.proofs.OrderLaws.{least_walks_one}
use Rattle.lt_waits.proofs.ShortLaws.{least_walk_is}
use Rattle.lt_requests.specs.declared.cycle.Edge.{Edge}
use Rattle.lt_requests.specs.Walks.{waits_of, edges_along, cycle_of}

pub cycle_some : (edges : List Edge) (txn : ℕ) (walk : List ℕ) → IsLeastWalk (waits_of edges) txn walk → cycle_of edges txn ≡ Some (edges_along edges walk)
cycle_some edges txn walk least = computed (least_walk (waits_of edges) txn) (least_walk_is (waits_of edges) txn)
  where
    computed : (o : Option (List ℕ)) → MatchOption o (HasNoClosedWalk (waits_of edges) txn) (λ w. IsLeastWalk (waits_of edges) txn w) → option_map (λ w. edges_along edges w) o ≡ Some (edges_along edges walk)
    computed None none = absurd (none walk least.closed)
    computed (Some w) is = ap (λ l. Some (edges_along edges l)) (least_walks_one (waits_of edges) txn w walk is least)

pub cycle_none : (edges : List Edge) (txn : ℕ) → HasNoClosedWalk (waits_of edges) txn → cycle_of edges txn ≡ None
cycle_none edges txn none = computed (least_walk (waits_of edges) txn) (least_walk_is (waits_of edges) txn)
  where
    computed : (o : Option (List ℕ)) → MatchOption o (HasNoClosedWalk (waits_of edges) txn) (λ w. IsLeastWalk (waits_of edges) txn w) → option_map (λ w. edges_along edges w) o ≡ None
    computed None h = refl
    computed (Some w) is = absurd (none w is.closed)

pub at_some : {A : Type 0} (o : Option A) (x : A) (N : Type 0) (P : A → Type 0) → o ≡ Some x → MatchOption o N P → P x
at_some o x N P e h = (let Q : Option _ → Type 0 = λ r. MatchOption r N P in subst Q e h)

pub at_none : {A : Type 0} (o : Option A) (N : Type 0) (P : A → Type 0) → o ≡ None → MatchOption o N P → N
at_none o N P e h = (let Q : Option _ → Type 0 = λ r. MatchOption r N P in subst Q e h)
