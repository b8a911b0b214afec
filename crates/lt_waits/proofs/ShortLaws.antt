-- A shortest closed walk has no more edges than the graph.
use Rattle.std.proofs.Common.{◌≡◌, ℕ, zero, suc, ◌+◌, ◌≤◌, List, [], ◌∷◌, map, length, Option, Some, None, Bool, true, false, ◌||◌, eqb, eqb-true, ◌⊎◌, Contains, refl, sym, ap, subst, ◌∙◌, inl, inr, arith}
use Rattle.std.specs.Prelude.{MatchOption}
use Rattle.std.specs.List.{list_any, AllByRecursion, IsDistinct}
use Rattle.std.specs.Cmp.{nat_eq_equiv}
use Rattle.std.proofs.lemmas.Bool.{cases_lt, eq-eqb}
use Rattle.std.proofs.lemmas.List.{length-map}
use Rattle.std.proofs.lemmas.Map.Keys.{IsDistinct-cons}
use Rattle.std.proofs.lemmas.Map.Made.{length-le_from_is_member}
use Rattle.lt_waits.specs.declared.wait.Wait.{Wait}
use Rattle.lt_waits.specs.Walks.{IsWay, HasNoClosedWalk, IsLeastWalk, least_walk}
use Rattle.lt_waits.proofs.ComputedLaws.{contains_cons, of_closed, shortest_is}

-- who waits along a way
abbrev waiters : ℕ → List ℕ → List ℕ
waiters from [] = []
waiters from (next ∷ more) = from ∷ waiters next more

length_waiters : (from : ℕ) (way : List ℕ) → length (waiters from way) ≡ length way
length_waiters from [] = refl
length_waiters from (next ∷ more) = ap suc (length_waiters next more)

false_true : false ≡ true → ⊥
false_true e = cc

-- from each who waits along a way a part of it leads on
part_from : (edges : List Wait) (way : List ℕ) (from to one : ℕ) → IsWay edges from way to → list_any (eqb one) (waiters from way) ≡ true → (part : List ℕ) × IsWay edges one part to × (1 ≤ length part) × (length part ≤ length way)
part_from edges [] from to one is among = absurd (false_true among)
part_from edges (next ∷ more) from to one is among = by_test (eqb one from) refl among (part_from edges more next to one is.1)
  where
    by_test : (b : Bool) → eqb one from ≡ b → (b || list_any (eqb one) (waiters next more)) ≡ true → (list_any (eqb one) (waiters next more) ≡ true → (part : List ℕ) × IsWay edges one part to × (1 ≤ length part) × (length part ≤ length more)) → (part : List ℕ) × IsWay edges one part to × (1 ≤ length part) × (length part ≤ length (next ∷ more))
    by_test true e h behind = (next ∷ more, subst (λ x. IsWay edges x (next ∷ more) to) (sym (eqb-true one from e)) is, omega arith, omega arith)
    by_test false e h behind = (let rest = behind h in (rest.0, rest.1, rest.2, omega (arith, rest.3)))

none_of : (one : ℕ) (xs : List ℕ) → list_any (eqb one) xs ≡ false → AllByRecursion (λ y. eqb one y ≡ false) xs
none_of one [] e = tt
none_of one (x ∷ xs) e = by_test (eqb one x) refl e (none_of one xs)
  where
    by_test : (b : Bool) → eqb one x ≡ b → (b || list_any (eqb one) xs) ≡ false → (list_any (eqb one) xs ≡ false → AllByRecursion (λ y. eqb one y ≡ false) xs) → (eqb one x ≡ false) × AllByRecursion (λ y. eqb one y ≡ false) xs
    by_test true h k rest = absurd (false_true (sym k))
    by_test false h k rest = (h, rest k)

none_distinct : IsDistinct eqb []
unfolding IsDistinct
none_distinct = tt

-- none waits twice along a shortest way
pub distinct : (edges : List Wait) (way : List ℕ) (from to : ℕ) → IsWay edges from way to → ((other : List ℕ) → IsWay edges from other to → 1 ≤ length other → length way ≤ length other) → IsDistinct eqb (waiters from way)
distinct edges [] from to is short = none_distinct
distinct edges (next ∷ more) from to is short =
    IsDistinct-cons eqb from (waiters next more) (none_of from (waiters next more) (not_again (list_any (eqb from) (waiters next more)) refl))
    (distinct edges more next to is.1 (λ other way some. (let longer : length (next ∷ more) ≤ length (next ∷ other) = short (next ∷ other) (is.0, way) (omega arith) in omega (arith, longer))))
  where
    not_again : (b : Bool) → list_any (eqb from) (waiters next more) ≡ b → list_any (eqb from) (waiters next more) ≡ false
    not_again true e = (let part = part_from edges more next to from is.1 e in
        let longer : length (next ∷ more) ≤ length part.0 = short part.0 part.1 part.2 in absurd (omega (arith, longer, part.3)))
    not_again false e = e

waits_for : (edges : List Wait) (e : Wait) → Contains edges e → list_any (eqb e.waiter) (map (λ w. w.waiter) edges) ≡ true
waits_for [] e has = absurd (omega (arith, has.1))
waits_for (w ∷ edges) e has = by_test (eqb e.waiter w.waiter) refl (contains_cons w edges e has) (waits_for edges e)
  where
    by_test : (b : Bool) → eqb e.waiter w.waiter ≡ b → (w ≡ e) ⊎ Contains edges e → (Contains edges e → list_any (eqb e.waiter) (map (λ w. w.waiter) edges) ≡ true) → (b || list_any (eqb e.waiter) (map (λ w. w.waiter) edges)) ≡ true
    by_test true h either rest = refl
    by_test false h (inl same) rest = absurd (false_true (sym h ∙ eq-eqb e.waiter w.waiter (ap (λ (x : Wait). x.waiter) (sym same))))
    by_test false h (inr later) rest = rest later

all_wait : (edges : List Wait) (way : List ℕ) (from to one : ℕ) → IsWay edges from way to → list_any (eqb one) (waiters from way) ≡ true → list_any (eqb one) (map (λ w. w.waiter) edges) ≡ true
all_wait edges [] from to one is among = absurd (false_true among)
all_wait edges (next ∷ more) from to one is among = by_test (eqb one from) refl among (all_wait edges more next to one is.1)
  where
    by_test : (b : Bool) → eqb one from ≡ b → (b || list_any (eqb one) (waiters next more)) ≡ true → (list_any (eqb one) (waiters next more) ≡ true → list_any (eqb one) (map (λ w. w.waiter) edges) ≡ true) → list_any (eqb one) (map (λ w. w.waiter) edges) ≡ true
    by_test true e h behind = subst (λ x. list_any (eqb x) (map (λ w. w.waiter) edges) ≡ true) (sym (eqb-true one from e)) (waits_for edges (record { waiter = from; holder = next }) is.0)
    by_test false e h behind = behind h

pub short_enough : (edges : List Wait) (way : List ℕ) (from to : ℕ) → IsWay edges from way to → ((other : List ℕ) → IsWay edges from other to → 1 ≤ length other → length way ≤ length other) → length way ≤ length edges
short_enough edges way from to is short =
    let fits : length (waiters from way) ≤ length (map (λ w. w.waiter) edges) = length-le_from_is_member nat_eq_equiv (waiters from way) (map (λ w. w.waiter) edges) (distinct edges way from to is short) (λ one among. all_wait edges way from to one is among) in
    omega (arith, fits, length_waiters from way, length-map edges (λ (w : Wait). w.waiter))

-- where each closed way has more edges than the graph there is none
none_to : (edges : List Wait) (txn : ℕ) → ((way : List ℕ) → IsWay edges txn way txn → 1 ≤ length way → 1 + length edges ≤ length way) → (m : ℕ) (way : List ℕ) → IsWay edges txn way txn → 1 ≤ length way → length way ≤ m → ⊥
none_to edges txn long zero way is some small = absurd (omega (arith, some, small))
none_to edges txn long (suc m) way is some small =
    let fits : length way ≤ length edges = short_enough edges way txn txn is (λ other there any. elim (cases_lt m (length other)) [
      | inl more ↦ omega (arith, more, small)
      | inr less ↦ absurd (none_to edges txn long m other there any less)
    ]) in
    let longer : 1 + length edges ≤ length way = long way is some in
    absurd (omega (arith, fits, longer))

pub least_walk_is : (edges : List Wait) (txn : ℕ) → MatchOption (least_walk edges txn) (HasNoClosedWalk edges txn) (λ walk. IsLeastWalk edges txn walk)
least_walk_is edges txn = none_long (least_walk edges txn) (shortest_is (length edges) 1 edges txn (omega arith) (λ way is some. some))
  where
    none_long : (o : Option (List ℕ)) → MatchOption o ((way : List ℕ) → IsWay edges txn way txn → 1 ≤ length way → 1 + length edges ≤ length way) (λ walk. IsLeastWalk edges txn walk) → MatchOption o (HasNoClosedWalk edges txn) (λ walk. IsLeastWalk edges txn walk)
    none_long None long = λ walk closed. (let way = of_closed edges txn walk closed in none_to edges txn long (length way.0) way.0 way.2 way.3 (omega arith))
    none_long (Some walk) least = least
