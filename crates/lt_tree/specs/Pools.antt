-- The rows that a search holds of the pool.
use Rattle.std.specs.Prelude.{◌≡◌, ℕ, ◌+◌, ◌<◌, List, [], ◌∷◌}
use Rattle.lt_rows.specs.declared.view.View.{View}
use Rattle.lt_rows.specs.Views.{IsHeld}
use Rattle.lt_rows.specs.Lawful.{shown}
use Rattle.lt_tree.specs.declared.pool.PoolRows.{PoolRows}
use Rattle.lt_tree.specs.declared.pool.PoolRows.TheVariants.{Nothing, Anchor, Vacant}

-- by their numbers: the pool's anchor stands behind those of the trees
abbrev pub pool_rows : ℕ → PoolRows → List ℕ
pool_rows trees Nothing = []
pool_rows trees Anchor = trees ∷ []
pool_rows trees (Vacant row) = row ∷ trees ∷ []

-- the pool's anchor is held besides
abbrev pub with_anchor : PoolRows → PoolRows
with_anchor Nothing = Anchor
with_anchor Anchor = Anchor
with_anchor (Vacant row) = Vacant row

-- no vacant row is held
abbrev pub HoldsNoVacant : PoolRows → Type 0
HoldsNoVacant Nothing = Unit {0}
HoldsNoVacant Anchor = Unit {0}
HoldsNoVacant (Vacant row) = ⊥

-- the pool's anchor is held, and the further row to which it leads
abbrev pub HoldsFirst : View → ℕ → Type 0
HoldsFirst v row =
    IsHeld v v.plan.trees × IsHeld v row × (v.plan.trees < row) × ((shown v [] v.plan.trees).left ≡ row + 1)
