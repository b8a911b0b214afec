-- Rows laid out with their links.
use Rattle.std.specs.Prelude.{◌≡◌, ℕ, ◌+◌, ◌*◌, ◌^◌, ◌≤◌, max, List, [], ◌∷◌, ◌++◌, length}
use Rattle.lt_forest.specs.declared.part.Placed.{Placed}
use Rattle.lt_forest.specs.Trees.{Nodes, in_order}
use Rattle.lt_forest.specs.Cuts.{Cut, end, held, bare, depth}
use Rattle.lt_forest.specs.Parts.{hangs_of}

-- the placed rows lead from the link along the cut: those of the left side stand first, then those of the right, then
-- the row itself
abbrev pub IsLaid : List Placed → ℕ → Cut → Type 0
IsLaid placed link (end l) = (placed ≡ []) × (link ≡ l)
IsLaid placed link (held a r b) =
    (xs : List Placed) × (ys : List Placed) × (p : Placed) × (placed ≡ xs ++ (ys ++ p ∷ []))
    × (p.row ≡ r) × (link ≡ r + 1) × IsLaid xs p.left a × IsLaid ys p.right b

-- below the link the placed rows show these rows and hangs in key order
pub record ShowsInOrder (placed : List Placed) (link : ℕ) (rows hangs : List ℕ) : Type 0 where
  pub cut : Cut
  pub laid : IsLaid placed link cut
  pub rows_are : in_order (bare cut) ≡ rows
  pub hangs_are : hangs_of cut ≡ hangs

-- and n of them stand at most one more than the binary logarithm of n below each other
pub record IsLayout (placed : List Placed) (link : ℕ) (rows hangs : List ℕ) : Type 0 where
  pub shown : ShowsInOrder placed link rows hangs
  pub balanced : 2 ^ depth shown.cut ≤ max 1 (2 * length rows)

-- what was placed since then is a layout
pub record LaysOut (old new : List Placed) (link : ℕ) (rows hangs : List ℕ) : Type 0 where
  pub added : List Placed
  pub placed : new ≡ old ++ added
  pub layout : IsLayout added link rows hangs

-- the rows hold the links with which they are placed
abbrev pub HoldsPlaced : Nodes → List Placed → Type 0
HoldsPlaced d [] = Unit {0}
HoldsPlaced d (p ∷ ps) = ((d p.row).left ≡ p.left) × ((d p.row).right ≡ p.right) × HoldsPlaced d ps

-- two rows turned: below the new link they show the rows and hangs that they showed below the old one
pub record Turns (old new : List Placed) (old_link new_link : ℕ) : Type 0 where
  pub rows : List ℕ
  pub hangs : List ℕ
  pub before : ShowsInOrder old old_link rows hangs
  pub after : ShowsInOrder new new_link rows hangs
