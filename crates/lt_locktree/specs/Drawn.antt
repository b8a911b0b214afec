-- Images of rows that hang below a link.
use Rattle.std.specs.Prelude.{◌≡◌, ℕ, ◌+◌, List, [], ◌∷◌, ◌++◌}
use Rattle.lt_forest.specs.declared.part.PartRow.{PartRow}
use Rattle.lt_forest.specs.Trees.{Node}
use Rattle.lt_forest.specs.Cuts.{Cut, end, held}
use Rattle.lt_forest.specs.Parts.{hangs_of}
use Rattle.lt_rows.specs.declared.image.RowImage.{RowImage}
use Rattle.lt_rows.specs.Nodes.{node_of}

-- what the image of a row holds, with these links
abbrev pub node_with : PartRow → ℕ → ℕ → Node
node_with r left right = record { owner = r.owner; range = r.range; left = left; right = right }

pub record IsImageOf (image : RowImage) (r : PartRow) (left right : ℕ) : Type 0 where
  pub row : image.row ≡ r.row
  pub node : node_of image.words ≡ node_with r left right

-- the images lead from the link along the cut, whose rows are these in key order: those of the left side stand first, then those of
-- the right, then the row itself
abbrev pub IsDrawn : List RowImage → List PartRow → ℕ → Cut → Type 0
IsDrawn images rows link (end l) = (images ≡ []) × (rows ≡ []) × (link ≡ l)
IsDrawn images rows link (held a q b) =
    (xs : List RowImage) × (ys : List RowImage) × (image : RowImage) × (images ≡ xs ++ (ys ++ image ∷ []))
    × (rs : List PartRow) × (ss : List PartRow) × (r : PartRow) × (rows ≡ rs ++ r ∷ ss)
    × (left : ℕ) × (right : ℕ) × IsImageOf image r left right × (r.row ≡ q) × (link ≡ q + 1)
    × IsDrawn xs rs left a × IsDrawn ys ss right b

-- what was drawn since then shows these rows and hangs
pub record Draws (old new : List RowImage) (link : ℕ) (rows : List PartRow) (hangs : List ℕ) : Type 0 where
  pub added : List RowImage
  pub images_are : new ≡ old ++ added
  pub cut : Cut
  pub drawn : IsDrawn added rows link cut
  pub hangs_are : hangs_of cut ≡ hangs
