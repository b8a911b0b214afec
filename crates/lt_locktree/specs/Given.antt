-- Rows that are given to the front of the pool.
use Rattle.std.specs.Prelude.{◌≡◌, ℕ, ◌+◌, List, [], ◌∷◌, ◌++◌, slice_set}
use Rattle.lt_forest.specs.declared.part.PartRow.{PartRow}
use Rattle.lt_rows.specs.declared.image.RowImage.{RowImage}
use Rattle.lt_rows.specs.Nodes.{node_of}

-- The images, in the other order, lead from the link along these rows to the last link.
abbrev pub IsChained : List RowImage → ℕ → List PartRow → ℕ → Type 0
IsChained images link [] last = (images ≡ []) × (link ≡ last)
IsChained images link (r ∷ rows) last =
    (front : List RowImage) × (image : RowImage) × (images ≡ front ++ image ∷ []) × (image.row ≡ r.row) × (link ≡ r.row + 1)
    × IsChained front (node_of image.words).left rows last

-- what was put there since then leads from the link along the rows
pub record Chains (old new : List RowImage) (link : ℕ) (rows : List PartRow) (last : ℕ) : Type 0 where
  pub added : List RowImage
  pub images_are : new ≡ old ++ added
  pub chained : IsChained added link rows last

-- the pool's anchor with another first row
abbrev pub given_to : RowImage → ℕ → RowImage
given_to pool link = record { row = pool.row; words = slice_set pool.words 17 link }
