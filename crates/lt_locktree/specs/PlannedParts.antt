-- The plan of a part that is laid anew.
use Rattle.std.specs.Prelude.{◌≡◌, ◌⊎◌, ℕ, List, [], ◌∷◌, ◌++◌, ◌+◌, length, take, drop, slice_set, Bool, ◌||◌, nat_eq, if◌then◌else◌}
use Rattle.lt_ranges.specs.Interval.{Interval, before}
use Rattle.lt_forest.specs.declared.part.PartRow.{PartRow}
use Rattle.lt_rows.specs.declared.image.RowImage.{RowImage}
use Rattle.lt_rows.specs.declared.view.View.{View}
use Rattle.lt_rows.specs.Nodes.{node_of}
use Rattle.lt_rows.specs.Views.{row_at, words_of}
use Rattle.lt_rows.specs.Lawful.{shown}
use Rattle.lt_locktree.specs.Drawn.{Draws}

-- the row stands at this place of the list
abbrev pub IsAt : List PartRow → ℕ → PartRow → Type 0
IsAt rows at r = rows ≡ take at rows ++ r ∷ drop (at + 1) rows

-- the image stands in the plan
abbrev pub InPlan : RowImage → List RowImage → Type 0
InPlan p [] = ⊥
InPlan p (q ∷ qs) = (p ≡ q) ⊎ InPlan p qs

-- whether the part hangs on the left side of the row that stays: it is the tree's anchor, or the range lies before it
abbrev pub hangs_left : ℕ → Interval → RowImage → Bool
hangs_left tree asked stays = nat_eq stays.row tree || before asked (node_of stays.words).range

-- the row that stays with another link to the part
abbrev pub relinked : ℕ → Interval → RowImage → ℕ → RowImage
relinked tree asked stays link =
    record { row = stays.row; words = slice_set stays.words (if hangs_left tree asked stays then 17 else 18) link }

-- behind other images the plan has those of the part's rows, and then that of the row that stays
pub record PlansRows (tree : ℕ) (asked : Interval) (stays : RowImage) (others plan : List RowImage) (rows : List PartRow) (hangs : List ℕ) : Type 0 where
  pub link : ℕ
  pub middle : List RowImage
  pub draws : Draws others middle link rows hangs
  pub plan_is : plan ≡ middle ++ relinked tree asked stays link ∷ []

-- the row with the words that were loaded of it
pub record IsLoaded (v : View) (here : ℕ) (image : RowImage) : Type 0 where
  pub row : image.row ≡ here
  pub words : image.words ≡ words_of (row_at v here)
  pub long : length image.words ≡ 21

-- an image of the row with the owner, range and links that it has; an anchor's score may be another
pub record ShowsRow (v : View) (here : ℕ) (image : RowImage) : Type 0 where
  pub row : image.row ≡ here
  pub node : shown v [] here ≡ node_of image.words
  pub long : length image.words ≡ 21
