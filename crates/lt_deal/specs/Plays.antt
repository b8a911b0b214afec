-- What each step tells.
use Rattle.std.specs.Prelude.{◌≡◌, ℕ, ◌+◌, ◌<◌, ◌≤◌, [], ◌∷◌, ◌++◌, length, Option, Some}
use mathlib.Core.Option.{some}
use lib.ListN.{get_elem?}
use Rattle.atomic_table.specs.Table.{Step, Me}
use Rattle.lt_deal.specs.declared.view.View.{View}
use Rattle.lt_deal.specs.Rule.{Gave}

abbrev pub Seated : Type 0 → Type 0
Seated T = Me (Option T) (View T)

module _ {T : Type 0} where
  -- the seat has the slot behind the stock
  abbrev pub opens : Step (Option T) → Seated T → ℕ → Seated T → Type 0
  opens st m found m' = (m'.0 ≡ record m.0 { filling = 1 }) × ((y : Option T) × (m'.1 ≡ (length m.0.stock, y) ∷ []))

  -- the stock has the item besides
  abbrev pub stocks : Step (Option T) → Seated T → ℕ → Seated T → Type 0
  stocks st m found m' =
      (x : T) × (m.1 ≡ (length m.0.stock, Some x) ∷ []) × (m'.0 ≡ record m.0 { filling = 0; stock = m.0.stock ++ x ∷ [] }) × (m'.1 ≡ [])

  -- a ticket below the number of items brings the item, and another None
  abbrev pub draws : Step (Option T) → Seated T → ℕ → Seated T → Type 0
  draws st m found m' =
      (found < length m.0.stock → (m'.0 ≡ record m.0 { drew = m.0.drew ++ found ∷ [] })
      × ((x : T) × (get_elem? m.0.stock found ≡ some x) × (m'.1 ≡ (found, Some x) ∷ [])) × ((y : T) → Gave m.0.gave found y → ⊥))
      × (length m.0.stock ≤ found → (m'.0 ≡ record m.0 { nones = m.0.nones + 1 }) × (m'.1 ≡ []))

  abbrev pub gives_back : Step (Option T) → Seated T → ℕ → Seated T → Type 0
  gives_back st m found m' =
      (k : ℕ) × (x : T) × (m.1 ≡ (k, Some x) ∷ []) × (m'.0 ≡ record m.0 { gave = m.0.gave ++ (k, x) ∷ [] }) × (m'.1 ≡ [])
