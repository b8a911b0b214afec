-- What a seat knows, and the rule of the ticket word and the slots.
use Rattle.std.specs.Prelude.{◌≡◌, ℕ, ◌+◌, ◌-◌, ◌<◌, ◌≤◌, Bool, true, false, List, [], ◌∷◌, ◌++◌, length, nat_eq, nat_lt, Option, Some}
use mathlib.Core.Option.{some}
use lib.ListN.{get_elem?}
use Rattle.atomic_table.specs.Table.{State}
use Rattle.lt_deal.specs.declared.view.View.{View}

abbrev pub weight : Bool → ℕ
weight true = 1
weight false = 0

-- how often the index is among these
abbrev pub times : ℕ → List ℕ → ℕ
times k [] = 0
times k (x ∷ xs) = weight (nat_eq x k) + times k xs

-- 1 below n, and else 0
abbrev pub below : ℕ → ℕ → ℕ
below n k = weight (nat_lt k n)

module _ {T : Type 0} where
  abbrev pub total : (View T → ℕ) → List (View T) → ℕ
  total f [] = 0
  total f (v ∷ vs) = f v + total f vs

  abbrev pub opener : ℕ → View T
  opener k = record { parts = k; stock = []; filling = 0; drew = []; gave = []; nones = 0 }

  abbrev pub spent : View T
  spent = record { parts = 0; stock = []; filling = 0; drew = []; gave = []; nones = 0 }

  -- a seat that makes a further seat: it keeps one part
  abbrev pub maker : View T → View T
  maker v = record v { parts = 1 }

  abbrev pub further : View T → View T
  further v = record { parts = v.parts - 1; stock = v.stock; filling = 0; drew = []; gave = []; nones = 0 }

  abbrev pub gathered : View T → View T → View T
  gathered v w = record v { parts = v.parts + w.parts; drew = v.drew ++ w.drew; gave = v.gave ++ w.gave; nones = v.nones + w.nones }

  -- the item was given back at the index
  abbrev pub Gave : List (ℕ × T) → ℕ → T → Type 0
  Gave gave k x = (i : ℕ) × (get_elem? gave i ≡ some (k, x))

  abbrev pub drawn_by : ℕ → View T → ℕ
  drawn_by k v = times k v.drew

-- what one seat knows, where that many tickets were drawn
pub record Knows {T : Type 0} (stock : List T) (tickets : ℕ) (v : View T) : Type 0 where
  pub stocked : 0 < v.parts → v.stock ≡ stock
  pub blank : v.parts ≡ 0 → v ≡ spent
  pub asked : v.nones ≤ v.parts
  pub ended : 0 < v.nones → length stock ≤ tickets
  pub mine : (k : ℕ) (x : T) → Gave v.gave k x → 0 < times k v.drew

-- The rule: which tickets were drawn, by whom, and which items are at home.
pub record Dealt {T : Type 0} (workers : ℕ) (s : State (Option T) (View T)) : Type 0 where
  pub tickets : ℕ
  pub stock : List T
  pub word_is : s.words ≡ tickets ∷ []
  pub parts : total (λ v. v.parts) s.views ≡ workers
  pub each : (seat : ℕ) (v : View T) → get_elem? s.views seat ≡ some v → Knows stock tickets v
  -- each ticket beyond the items was answered None
  pub few : tickets ≤ length stock + total (λ v. v.nones) s.views
  -- each index whose ticket was drawn was drawn once, and no other
  pub once : (k : ℕ) → k < length stock → total (drawn_by k) s.views ≡ below tickets k
  pub none_else : (k : ℕ) → length stock ≤ k → total (drawn_by k) s.views ≡ 0
  -- the items that were not drawn are at home, and those that were given back
  pub first : (k : ℕ) (x : T) → tickets ≤ k → get_elem? stock k ≡ some x → get_elem? s.homes k ≡ some (some (Some x))
  pub back : (seat : ℕ) (v : View T) → get_elem? s.views seat ≡ some v → (k : ℕ) (x : T) → Gave v.gave k x → get_elem? s.homes k ≡ some (some (Some x))
  -- the slots behind the stock are at home, but the one that is being filled
  pub vacant : (k : ℕ) → length stock + total (λ v. v.filling) s.views ≤ k → k < length s.homes → (y : Option T) × (get_elem? s.homes k ≡ some (some y))
