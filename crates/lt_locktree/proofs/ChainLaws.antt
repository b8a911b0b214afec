-- Images of rows that go to the pool, put together one by one.
use Rattle.std.proofs.Common.{◌≡◌, ℕ, ◌+◌, List, [], ◌∷◌, ◌++◌, append_assoc, append-nil, refl, sym, ap, ◌∙◌, subst}
use Rattle.std.specs.Prelude.{reverse}
use Rattle.std.proofs.lemmas.List.{reverse-append}
use Rattle.lt_forest.specs.declared.part.PartRow.{PartRow}
use Rattle.lt_rows.specs.declared.image.RowImage.{RowImage}
use Rattle.lt_rows.specs.Nodes.{node_of}
use Rattle.lt_locktree.specs.Given.{IsChained, Chains}

pub chains_none : (images : List RowImage) (rest : ℕ) → Chains images images rest [] rest
chains_none images rest = record { added = []; images_are = sym (append-nil images); chained = (refl, refl) }

pub chains_one : (old images new : List RowImage) (link rest : ℕ) (rows : List PartRow) (r : PartRow) (image : RowImage)
    → Chains old images link (reverse rows) rest → image.row ≡ r.row → (node_of image.words).left ≡ link → new ≡ images ++ image ∷ []
    → Chains old new (r.row + 1) (reverse (rows ++ r ∷ [])) rest
chains_one old images new link rest rows r image so_far row_is left_is new_is =
    record {
      added = so_far.added ++ image ∷ [];
      images_are = new_is ∙ (ap (λ (xs : List RowImage). xs ++ image ∷ []) so_far.images_are ∙ append_assoc old so_far.added (image ∷ []));
      chained = subst (λ (rs : List PartRow). IsChained (so_far.added ++ image ∷ []) (r.row + 1) rs rest) (sym (reverse-append rows (r ∷ [])))
          (so_far.added, image, refl, row_is, refl, subst (λ (n : ℕ). IsChained so_far.added n (reverse rows) rest) (sym left_is) so_far.chained);
    }
