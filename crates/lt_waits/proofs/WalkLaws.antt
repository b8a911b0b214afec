-- What the steps lead is the least walk.
use Rattle.std.proofs.Common.{◌≡◌, ℕ, zero, suc, ◌+◌, ◌≤◌, List, [], ◌∷◌, ◌++◌, length, append_assoc, Result, Ok, Err, Option, Some, None, refl, sym, ap, subst, ◌∙◌, inl, inr, arith}
use Rattle.std.specs.Prelude.{IfOk, MatchOption}
use Rattle.std.proofs.lemmas.Option.{none-some}
use Rattle.std.specs.List.Sorted.{IsPermutation}
use Rattle.std.proofs.lemmas.List.Sorted.{Contains-permutation, IsPermutation-sym}
use Rattle.lt_waits.proofs.OrderLaws.{at_most_first, at_most_same}
use Rattle.lt_waits.specs.declared.wait.Wait.{Wait}
use Rattle.lt_waits.specs.declared.search.Step.{Step}
use Rattle.lt_waits.specs.Walks.{IsEdge, IsWay, IsClosedWalk, HasNoClosedWalk, IsAtMost, IsLeastWalk}
use Rattle.lt_waits.specs.Steps.{IsNext, AreSteps, next_in, next_of, route, IsWalkBy}

next_is : (f : ℕ → Option Step) (at : ℕ) (o : Option Step) (step : Step) → f at ≡ o → o ≡ Some step → next_in at o ≡ step.next
next_is f at None step e h = absurd (none-some step h)
next_is f at (Some s) step e h = (let same : s ≡ step = cc in ap (λ (x : Step). x.next) same)

pub next_of_is : (f : ℕ → Option Step) (at : ℕ) (step : Step) → f at ≡ Some step → next_of f at ≡ step.next
next_of_is f at step e = next_is f at (f at) step refl e

-- the steps are a way
pub route_way : (edges : List Wait) (txn : ℕ) (f : ℕ → Option Step) → AreSteps edges txn f → (n at : ℕ) → IsNext txn f at (n + 1) → IsWay edges at (route n f at) txn
route_way edges txn f are zero at is = elim is [
  | inl here ↦ here.0
  | inr by ↦ absurd (no_step by.0 by.1 (omega (arith, by.2)))
]
  where
    no_step : (step : Step) → f at ≡ Some step → step.left ≡ 0 → ⊥
    no_step step e none = elim (are.sound at step e).1 [
      | inl here ↦ absurd (omega (arith, here.1, none))
      | inr by ↦ absurd (omega (arith, by.2, none))
    ]
route_way edges txn f are (suc n) at is = elim is [
  | inl here ↦ absurd (omega (arith, here.1))
  | inr by ↦ (let s = are.sound at by.0 by.1 in let to = next_of_is f at by.0 by.1 in (
    subst (λ x. IsEdge edges at x) (sym to) s.0,
    route_way edges txn f are n (next_of f at) (subst (λ x. IsNext txn f x (n + 1)) (sym to) (subst (λ m. IsNext txn f (by.0).next m) (omega (arith, by.2)) s.1)),
  ))
]

-- a way of one edge or more is no shorter than the steps
pub fewest_steps : (edges : List Wait) (txn : ℕ) (f : ℕ → Option Step) → AreSteps edges txn f → (at next : ℕ) (more : List ℕ) → IsWay edges at (next ∷ more) txn → (step : Step) × (f at ≡ Some step) × (step.left ≤ length (next ∷ more))
fewest_steps edges txn f are at next [] way =
    let has = are.opened next 1 (inl (way.1, refl)) at way.0 in (has.0, has.1, has.2)
fewest_steps edges txn f are at next (after ∷ more) way =
    let behind = fewest_steps edges txn f are next after more way.1 in
    let has = are.opened next ((behind.0).left + 1) (inr (behind.0, behind.1, refl)) at way.0 in
    (has.0, has.1, omega (arith, has.2, behind.2))

some_is : (a b : Step) → Some a ≡ Some b → a ≡ b
some_is a b e = cc

-- a way of as few edges has no lesser numbers
pub least_steps : (edges : List Wait) (txn : ℕ) (f : ℕ → Option Step) → AreSteps edges txn f → (at next : ℕ) (more : List ℕ) → IsWay edges at (next ∷ more) txn → (step : Step) → f at ≡ Some step → step.left ≡ length (next ∷ more) → IsAtMost (route (length (next ∷ more)) f at) (next ∷ more)
least_steps edges txn f are at next [] way step e same =
    let has = are.opened next 1 (inl (way.1, refl)) at way.0 in
    let s : has.0 ≡ step = some_is _ _ (sym has.1 ∙ e) in
    let to = next_of_is f at step e in
    let less : step.next ≤ next = subst (λ (x : Step). x.next ≤ next) s (has.3 (ap (λ (x : Step). x.left) s ∙ same)) in
    at_most_first (next_of f at) next [] [] (subst (λ n. n ≤ next) (sym to) less) (λ _. refl)
least_steps edges txn f are at next (after ∷ more) way step e same =
    let behind = fewest_steps edges txn f are next after more way.1 in
    let has = are.opened next ((behind.0).left + 1) (inr (behind.0, behind.1, refl)) at way.0 in
    let s : has.0 ≡ step = some_is _ _ (sym has.1 ∙ e) in
    let to = next_of_is f at step e in
    let short : step.left ≤ (behind.0).left + 1 = subst (λ (x : Step). x.left ≤ (behind.0).left + 1) s has.2 in
    let as_long : (behind.0).left ≡ length (after ∷ more) = omega (arith, short, same, behind.2) in
    let less : step.next ≤ next = subst (λ (x : Step). x.next ≤ next) s (has.3 (ap (λ (x : Step). x.left) s ∙ omega (arith, same, as_long))) in
    at_most_first (next_of f at) next (route (length (after ∷ more)) f (next_of f at)) (after ∷ more) (subst (λ n. n ≤ next) (sym to) less)
    (λ equal. subst (λ n. IsAtMost (route (length (after ∷ more)) f n) (after ∷ more)) (sym equal) (least_steps edges txn f are next after more way.1 behind.0 behind.1 as_long))

length_route : (f : ℕ → Option Step) (n at : ℕ) → length (route n f at) ≡ n
length_route f zero at = refl
length_route f (suc n) at = ap suc (length_route f n (next_of f at))

-- the steps from the transaction lead the least walk through it
leads : (edges : List Wait) (txn : ℕ) (f : ℕ → Option Step) → AreSteps edges txn f → (step : Step) → f txn ≡ Some step → (n : ℕ) → step.left ≡ n → IsLeastWalk edges txn (txn ∷ route n f txn)
leads edges txn f are step e zero same = absurd (elim (are.sound txn step e).1 [
  | inl here ↦ absurd (omega (arith, here.1, same))
  | inr by ↦ absurd (omega (arith, by.2, same))
])
leads edges txn f are step e (suc n) same = record {
  closed = (refl, route_way edges txn f are (suc n) txn (inr (step, e, omega (arith, same))));
  fewest = λ other closed. fewest_of other closed;
  least = λ other closed as_long. least_of other closed as_long;
}
  where
    fewest_of : (other : List ℕ) → IsClosedWalk edges txn other → length (txn ∷ route (suc n) f txn) ≤ length other
    fewest_of [] closed = absurd closed
    fewest_of (first ∷ []) closed = absurd closed
    fewest_of (first ∷ next ∷ more) closed =
        let few = fewest_steps edges txn f are txn next more closed.1 in
        let s : few.0 ≡ step = some_is _ _ (sym few.1 ∙ e) in
        let short : step.left ≤ length (next ∷ more) = subst (λ (x : Step). x.left ≤ length (next ∷ more)) s few.2 in
        omega (arith, short, same, length_route f (suc n) txn)

    least_of : (other : List ℕ) → IsClosedWalk edges txn other → length other ≡ length (txn ∷ route (suc n) f txn) → IsAtMost (txn ∷ route (suc n) f txn) other
    least_of [] closed as_long = absurd closed
    least_of (first ∷ []) closed as_long = absurd closed
    least_of (first ∷ next ∷ more) closed as_long =
        let long : length (next ∷ more) ≡ suc n = omega (arith, as_long, length_route f (suc n) txn) in
        subst (λ x. IsAtMost (txn ∷ route (suc n) f txn) (x ∷ next ∷ more)) (sym closed.0)
        (at_most_same txn (route (suc n) f txn) (next ∷ more)
        (subst (λ m. IsAtMost (route m f txn) (next ∷ more)) long (least_steps edges txn f are txn next more closed.1 step e (same ∙ sym long))))

pub steps_lead : (edges : List Wait) (txn : ℕ) (f : ℕ → Option Step) → AreSteps edges txn f → (walk : List ℕ) → IsWalkBy f txn walk → IsLeastWalk edges txn walk
steps_lead edges txn f are walk by = subst (λ w. IsLeastWalk edges txn w) (sym by.2) (leads edges txn f are by.0 by.1 (by.0).left refl)

pub no_step_no_walk : (edges : List Wait) (txn : ℕ) (f : ℕ → Option Step) → AreSteps edges txn f → f txn ≡ None → HasNoClosedWalk edges txn
no_step_no_walk edges txn f are none [] closed = closed
no_step_no_walk edges txn f are none (first ∷ []) closed = closed
no_step_no_walk edges txn f are none (first ∷ next ∷ more) closed =
    let few = fewest_steps edges txn f are txn next more closed.1 in none-some few.0 (sym none ∙ few.1)

-- edges in another order are the same
pub steps_of_all : (edges other : List Wait) (txn : ℕ) (f : ℕ → Option Step) → IsPermutation edges other → AreSteps other txn f → AreSteps edges txn f
steps_of_all edges other txn f same are = record {
  sound = λ waiter step e. (let s = are.sound waiter step e in (Contains-permutation other edges _ (IsPermutation-sym edges other same) s.0, s.1));
  opened = λ next n is waiter edge. are.opened next n is waiter (Contains-permutation edges other _ same edge);
}

pub route_more : (f : ℕ → Option Step) (walk whole : List ℕ) (at n m : ℕ) → m + 1 ≡ n → walk ++ route n f at ≡ whole → (walk ++ next_of f at ∷ []) ++ route m f (next_of f at) ≡ whole
route_more f walk whole at n m count is =
    append_assoc walk (next_of f at ∷ []) (route m f (next_of f at)) ∙ subst (λ k. walk ++ route k f at ≡ whole) (let e : n ≡ suc m = omega (arith, count) in e) is

-- what the steps say of the walk that is found
pub cycle_is : {V E : Type 0} (items : V → List ℕ) (edges other : List Wait) (txn : ℕ) (f : ℕ → Option Step) → IsPermutation edges other → AreSteps other txn f → (r : Result (Option V) E) → IfOk r (λ found. MatchOption found (f txn ≡ None) (λ walk. IsWalkBy f txn (items walk))) → IfOk r (λ found. MatchOption found (HasNoClosedWalk edges txn) (λ walk. IsLeastWalk edges txn (items walk)))
cycle_is items edges other txn f same are (Err e) h = h
cycle_is items edges other txn f same are (Ok None) h = no_step_no_walk edges txn f (steps_of_all edges other txn f same are) h
cycle_is items edges other txn f same are (Ok (Some walk)) h = steps_lead edges txn f (steps_of_all edges other txn f same are) (items walk) h
