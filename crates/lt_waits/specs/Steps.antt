-- What the search keeps: of a transaction its step, where a walk is known from it to the one that is searched for.
use Rattle.std.specs.Prelude.{◌≡◌, ◌≢◌, ℕ, zero, suc, ◌+◌, ◌≤◌, ◌<◌, List, [], ◌∷◌, ◌++◌, length, Option, Some, None, ◌&&◌, ◌==◌, nat_lt, if◌then◌else◌, ◌⊎◌, All, Contains, filter, is_none}
use Rattle.std.specs.Ordering.{nat_cmp}
use Rattle.std.specs.BTreeMap.{BTreeMap, get}
use Rattle.lt_waits.specs.declared.wait.Wait.{Wait}
use Rattle.lt_waits.specs.declared.search.Step.{Step}
use Rattle.lt_waits.specs.Walks.{IsEdge}

abbrev pub steps_in : BTreeMap ℕ Step → ℕ → Option Step
steps_in steps txn = get nat_cmp steps txn

-- the part has the edges to the holder, and no others
pub record HasEdgesTo (edges : List Wait) (holder : ℕ) (part : List Wait) : Type 0 where
  pub only : All (λ e. (e.holder ≡ holder) × Contains edges e) part
  pub every : (waiter : ℕ) → IsEdge edges waiter holder → IsEdge part waiter holder

-- a way of so many edges begins with this one: it is searched for, or has one edge fewer left
abbrev pub IsNext : ℕ → (ℕ → Option Step) → ℕ → ℕ → Type 0
IsNext txn steps next count = ((next ≡ txn) × (count ≡ 1)) ⊎ ((step : Step) × (steps next ≡ Some step) × (step.left + 1 ≡ count))

-- the waiter has a step as short as this one, and if it is no shorter, to a number as small
abbrev pub HasStep : (ℕ → Option Step) → ℕ → ℕ → ℕ → Type 0
HasStep steps waiter next count = (step : Step) × (steps waiter ≡ Some step) × (step.left ≤ count) × (step.left ≡ count → step.next ≤ next)

-- all that wait for this one have a step as good as by it
abbrev pub IsOpened : List Wait → (ℕ → Option Step) → ℕ → ℕ → Type 0
IsOpened edges steps next count = (waiter : ℕ) → IsEdge edges waiter next → HasStep steps waiter next count

-- steps stay as long, and lead to no greater number
abbrev pub Grows : (ℕ → Option Step) → (ℕ → Option Step) → Type 0
Grows old new = (txn : ℕ) (step : Step) → old txn ≡ Some step → (now : Step) × (new txn ≡ Some now) × (now.left ≡ step.left) × (now.next ≤ step.next)

-- a step that is new has so many edges
abbrev pub AddsOnly : ℕ → (ℕ → Option Step) → (ℕ → Option Step) → Type 0
AddsOnly count old new = (txn : ℕ) (step : Step) → new txn ≡ Some step
    → ((was : Step) × (old txn ≡ Some was) × (step.left ≡ was.left)) ⊎ (step.left ≡ count)

-- All steps of fewer edges than these are found, and some of as many; those that have as many are listed.
pub record IsSearch (edges : List Wait) (txn count : ℕ) (steps : ℕ → Option Step) (found : List ℕ) : Type 0 where
  pub sound : (waiter : ℕ) (step : Step) → steps waiter ≡ Some step → IsEdge edges waiter step.next × IsNext txn steps step.next step.left
  pub bound : (waiter : ℕ) (step : Step) → steps waiter ≡ Some step → step.left ≤ count
  pub opened : (next n : ℕ) → IsNext txn steps next n → n < count → IsOpened edges steps next n
  pub listed : (next : ℕ) → IsNext txn steps next (count + 1) → Contains found next
  pub ahead : All (λ next. IsNext txn steps next (count + 1)) found

-- who is still to be opened is among these
abbrev pub IsHere : List Wait → ℕ → ℕ → (ℕ → Option Step) → List ℕ → Type 0
IsHere edges txn count steps layer = (next : ℕ) → IsNext txn steps next count → IsOpened edges steps next count ⊎ Contains layer next

-- the step of each transaction from which a walk leads to this one
pub record AreSteps (edges : List Wait) (txn : ℕ) (steps : ℕ → Option Step) : Type 0 where
  pub sound : (waiter : ℕ) (step : Step) → steps waiter ≡ Some step → IsEdge edges waiter step.next × IsNext txn steps step.next step.left
  pub opened : (next n : ℕ) → IsNext txn steps next n → IsOpened edges steps next n

-- the edges whose waiter has no step
abbrev pub waiting : List Wait → (ℕ → Option Step) → ℕ
waiting edges steps = length (filter (λ e. is_none (steps e.waiter)) edges)

-- the better of the step that is there and the one along this edge
abbrev pub better : Wait → ℕ → Option Step → Step
better wait left None = record { left = left; next = wait.holder }
better wait left (Some old) = if (old.left == left) && nat_lt wait.holder old.next then record { left = left; next = wait.holder } else old

abbrev pub found_then : Wait → Option Step → List ℕ → List ℕ
found_then wait None found = found ++ wait.waiter ∷ []
found_then wait (Some old) found = found

-- the step along the edge is taken
pub record IsTaken (wait : Wait) (left : ℕ) (old : ℕ → Option Step) (were : List ℕ) (new : ℕ → Option Step) (are : List ℕ) : Type 0 where
  pub here : new wait.waiter ≡ Some (better wait left (old wait.waiter))
  pub others : (txn : ℕ) → txn ≢ wait.waiter → new txn ≡ old txn
  pub found : are ≡ found_then wait (old wait.waiter) were

abbrev pub next_in : ℕ → Option Step → ℕ
next_in at None = at
next_in at (Some step) = step.next

abbrev pub next_of : (ℕ → Option Step) → ℕ → ℕ
next_of steps at = next_in at (steps at)

-- so many steps, one after another
abbrev pub route : ℕ → (ℕ → Option Step) → ℕ → List ℕ
route zero steps at = []
route (suc n) steps at = next_of steps at ∷ route n steps (next_of steps at)

-- the walk goes by the steps
abbrev pub IsWalkBy : (ℕ → Option Step) → ℕ → List ℕ → Type 0
IsWalkBy steps txn walk = (step : Step) × (steps txn ≡ Some step) × (walk ≡ txn ∷ route step.left steps txn)
