-- Images that differ from their rows in links and estimates alone.
use Rattle.std.proofs.Common.{◌≡◌, ◌≢◌, ℕ, List, [], ◌∷◌, ◌++◌, refl, sym, ap, ◌∙◌}
use Rattle.std.specs.Prelude.{Option, slice_index}
use mathlib.Core.Logic.{dite}
use native.Mathlib.Decide.{ℕ_discrete}
use Rattle.lt_rows.specs.declared.view.View.{View}
use Rattle.lt_rows.specs.declared.view.Row.{Row}
use Rattle.lt_rows.specs.declared.image.RowImage.{RowImage}
use Rattle.lt_rows.specs.Nodes.{SameRange}
use Rattle.lt_rows.specs.Views.{Holds, IsHeld, row_at, words_of, with_row, written, AllHeld}
use Rattle.lt_rows.specs.Handles.{Settles}
use Rattle.lt_rows.proofs.StepLaws.{written_row_is_stored}
use Rattle.lt_tree.specs.States.{HasWords}
use Rattle.lt_tree.specs.Writings.{words_in, KeepsRange, KeepRanges}
use Rattle.lt_tree.proofs.WritingLaws.{settle_plans}

pub range_same : (ws : List ℕ) → SameRange ws ws
range_same ws k less = refl

pub range_on : (xs ys zs : List ℕ) → SameRange xs ys → SameRange ys zs → SameRange xs zs
range_on xs ys zs one two k less = one k less ∙ two k less

pub keeps_range : (v : View) (image : RowImage) (row : ℕ) (words : List ℕ) → HasWords v row words → image.row ≡ row → SameRange image.words words
    → KeepsRange v image
keeps_range v image row words has is same k less =
    same k less ∙ ap (λ (ws : List ℕ). slice_index ws k) (sym (ap (words_in v) is ∙ has.1))

-- one image is stored
module _ (w u : View) (p : RowImage) (h : IsHeld w p.row) (e : u ≡ with_row w p.row (written (row_at w p.row) p.words)) (keeps : KeepsRange w p) where
  stored : Holds u p.row record (h.0) { words = p.words } × ((q : ℕ) → q ≢ p.row → row_at u q ≡ row_at w q)
  stored = written_row_is_stored p.row w u h.0 p.words h.1 e

  other_kept : (other : RowImage) → KeepsRange w other → KeepsRange u other
  other_kept other o k less = dite (ℕ_discrete other.row p.row)
      (λ is. o k less
      ∙ (ap (λ (n : ℕ). slice_index (words_in w n) k) is
      ∙ (sym (keeps k less)
      ∙ (sym (ap (λ (x : Option Row). slice_index (words_of x) k) stored.0)
      ∙ ap (λ (n : ℕ). slice_index (words_in u n) k) (sym is)))))
      (λ ne. o k less ∙ ap (λ (x : Option Row). slice_index (words_of x) k) (sym (stored.1 other.row ne)))

  pub others_kept : (ps : List RowImage) → KeepRanges w ps → KeepRanges u ps
  others_kept [] all = tt
  others_kept (q ∷ qs) all = (other_kept q all.0, others_kept qs all.1)

-- the images of a plan count, and are not stored yet
module _ (v u : View) (plan : List RowImage) (place : ℕ) (s : Settles v u plan place) where
  pub ranges_settled : (ps : List RowImage) → AllHeld v.held ps → KeepRanges v ps → KeepRanges u ps
  ranges_settled [] held all = tt
  ranges_settled (q ∷ qs) held all = (
    λ k less. all.0 k less
        ∙ ap (λ (ws : List ℕ). slice_index ws k) (sym ((settle_plans v u plan (v.front ++ s.0) s.2).words_stay q.row held.0)),
    ranges_settled qs held.1 all.1,
  )
