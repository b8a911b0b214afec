-- Images of a plan that are stored.
use Rattle.std.specs.Prelude.{◌≡◌, ℕ, List, [], ◌∷◌, length}
use Rattle.lt_rows.specs.declared.view.View.{View}
use Rattle.lt_rows.specs.declared.image.RowImage.{RowImage}
use Rattle.lt_rows.specs.Nodes.{SameRange}
use Rattle.lt_rows.specs.Views.{IsHeld, row_at, has, words_of, gap_of, images, planned_contents, AllHeld}
use Rattle.lt_tree.specs.States.{OnlyHeld}

-- the words of the rows that it holds
abbrev pub words_in : View → ℕ → List ℕ
words_in v r = words_of (row_at v r)

-- the image differs from its row in links and estimates alone
abbrev pub KeepsRange : View → RowImage → Type 0
KeepsRange v image = SameRange image.words (words_in v image.row)

-- and so do all of a plan
abbrev pub KeepRanges : View → List RowImage → Type 0
KeepRanges v [] = Unit {0}
KeepRanges v (p ∷ ps) = KeepsRange v p × KeepRanges v ps

-- of the plan's images these are left to be stored
pub record WritesSome (v w : View) (plan left : List RowImage) : Type 0 where
  pub only : OnlyHeld v w
  pub long : length w.held ≡ length v.held
  pub same : (q : ℕ) → has w q ≡ has v q
  pub images_stay : (q : ℕ) → images w q ≡ images v q
  pub gaps_stay : (q : ℕ) → gap_of (row_at w q) ≡ gap_of (row_at v q)
  pub words : (q : ℕ) → IsHeld v q → planned_contents (words_in w) left q ≡ planned_contents (words_in v) plan q
  pub held : AllHeld w.held left

-- the plan's images are stored, and what counts stays
pub record Writes (v w : View) (plan : List RowImage) : Type 0 where
  pub only : OnlyHeld v w
  pub long : length w.held ≡ length v.held
  pub same : (q : ℕ) → has w q ≡ has v q
  pub images_stay : (q : ℕ) → images w q ≡ images v q
  pub gaps_stay : (q : ℕ) → gap_of (row_at w q) ≡ gap_of (row_at v q)
  pub words : (q : ℕ) → IsHeld v q → words_in w q ≡ planned_contents (words_in v) plan q
