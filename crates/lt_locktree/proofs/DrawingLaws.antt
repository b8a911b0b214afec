-- Images of rows: what they hold, and how they are put together.
use Rattle.std.proofs.Common.{◌≡◌, ℕ, ◌+◌, ◌-◌, ◌<◌, List, [], ◌∷◌, ◌++◌, length, append_assoc, append-nil, drop-cons, get_or, refl, sym, ap, ◌∙◌, subst, arith, suc, take, drop, if◌then◌else◌}
use Rattle.std.proofs.lemmas.List.{take-append-drop, take_all, length-drop}
use Rattle.std.specs.Prelude.{slice_index}
use Rattle.lt_ranges.specs.declared.key.Key.{Key}
use Rattle.lt_ranges.specs.Interval.{Interval, IsInterval}
use Rattle.lt_ranges.specs.Packing.{IsValid, packed, unpacked}
use Rattle.lt_ranges.proofs.PackingLaws.{unpacked_again}
use Rattle.lt_forest.specs.declared.part.PartRow.{PartRow}
use Rattle.lt_forest.specs.Cuts.{end, held}
use Rattle.lt_rows.specs.declared.image.RowImage.{RowImage}
use Rattle.lt_rows.specs.Nodes.{node_of, key_of, or_below, upwards}
use Rattle.lt_locktree.specs.Drawn.{node_with, IsImageOf, Draws}

eight : (xs : List ℕ) → length xs ≡ 8
    → get_or xs 0 0 ∷ get_or xs 1 0 ∷ get_or xs 2 0 ∷ get_or xs 3 0 ∷ get_or xs 4 0 ∷ get_or xs 5 0 ∷ get_or xs 6 0 ∷ get_or xs 7 0 ∷ [] ≡ xs
eight (a ∷ b ∷ c ∷ d ∷ e ∷ f ∷ g ∷ h ∷ []) long = refl
eight [] long = absurd (omega (arith, long))
eight (a ∷ []) long = absurd (omega (arith, long))
eight (a ∷ b ∷ []) long = absurd (omega (arith, long))
eight (a ∷ b ∷ c ∷ []) long = absurd (omega (arith, long))
eight (a ∷ b ∷ c ∷ d ∷ []) long = absurd (omega (arith, long))
eight (a ∷ b ∷ c ∷ d ∷ e ∷ []) long = absurd (omega (arith, long))
eight (a ∷ b ∷ c ∷ d ∷ e ∷ f ∷ []) long = absurd (omega (arith, long))
eight (a ∷ b ∷ c ∷ d ∷ e ∷ f ∷ g ∷ []) long = absurd (omega (arith, long))
eight (a ∷ b ∷ c ∷ d ∷ e ∷ f ∷ g ∷ h ∷ i ∷ xs) long = absurd (omega (arith, long))

key_again : (ws : List ℕ) (key : Key) → ws ≡ packed key → IsValid key → key_of ws ≡ key
unfolding key_of
key_again ws key is valid = ap (λ (xs : List ℕ). or_below (unpacked xs)) is ∙ ap or_below (unpacked_again key valid)

upwards_again : (range : Interval) → IsInterval range → upwards range.left range.right ≡ range
upwards_again range ordered = ap (λ b. record { left = range.left; right = if b then range.right else range.left }) ordered

pub image_node : (r : PartRow) (low high : List ℕ) (left right : ℕ) → IsInterval r.range → low ≡ packed r.range.left → high ≡ packed r.range.right
    → IsValid r.range.left → IsValid r.range.right → length low ≡ 8 → length high ≡ 8
    → node_of (r.owner ∷ slice_index low 0 ∷ slice_index low 1 ∷ slice_index low 2 ∷ slice_index low 3 ∷ slice_index low 4 ∷ slice_index low 5 ∷ slice_index low 6 ∷ slice_index low 7
    ∷ slice_index high 0 ∷ slice_index high 1 ∷ slice_index high 2 ∷ slice_index high 3 ∷ slice_index high 4 ∷ slice_index high 5 ∷ slice_index high 6 ∷ slice_index high 7
    ∷ left ∷ right ∷ 0 ∷ 0 ∷ []) ≡ node_with r left right
unfolding node_of
image_node r low high left right ordered is_low is_high low_valid high_valid low_long high_long =
    let a = ap key_of (eight low low_long) ∙ key_again low r.range.left is_low low_valid in
    let b = ap key_of (eight high high_long) ∙ key_again high r.range.right is_high high_valid in
    ap (λ (i : Interval). record { owner = r.owner; range = i; left = left; right = right })
    ((λ j. upwards (a j) (b j)) ∙ upwards_again r.range ordered)

pub draws_none : (old : List RowImage) (rows : List PartRow) (hangs : List ℕ) → length hangs ≡ length rows + 1 → length rows ≡ 0
    → Draws old old (get_or hangs 0 0) rows hangs
draws_none old [] [] even none = absurd (omega (arith, even))
draws_none old [] (l ∷ []) even none = record { added = []; images_are = sym (append-nil old); cut = end l; drawn = (refl, refl, refl); hangs_are = refl }
draws_none old [] (l ∷ m ∷ ls) even none = absurd (omega (arith, even))
draws_none old (r ∷ rows) hangs even none = absurd (omega (arith, none))

draws_halves : (p0 p1 p2 : List RowImage) (image : RowImage) (r : PartRow) (left right : ℕ) (ks bs : List PartRow) (ls ms : List ℕ)
    → IsImageOf image r left right → Draws p0 p1 left ks ls → Draws p1 p2 right bs ms
    → Draws p0 (p2 ++ image ∷ []) (r.row + 1) (ks ++ r ∷ bs) (ls ++ ms)
draws_halves p0 p1 p2 image r left right ks bs ls ms is a b = record {
  added = a.added ++ (b.added ++ image ∷ []);
  images_are = ap (λ (l : List RowImage). l ++ image ∷ [])
      (b.images_are ∙ (ap (λ (l : List RowImage). l ++ b.added) a.images_are ∙ append_assoc p0 a.added b.added))
      ∙ (append_assoc p0 (a.added ++ b.added) (image ∷ []) ∙ ap (λ (l : List RowImage). p0 ++ l) (append_assoc a.added b.added (image ∷ [])));
  cut = held a.cut r.row b.cut;
  drawn = (a.added, b.added, image, refl, ks, bs, r, refl, left, right, is, refl, refl, a.drawn, b.drawn);
  hangs_are = λ j. a.hangs_are j ++ b.hangs_are j;
}

-- the rows and links of a part in two halves round the row in the middle, as a function draws them
pub draws_middle : (p0 p1 p2 new : List RowImage) (left right m : ℕ) (r : PartRow) (image : RowImage) (rows : List PartRow) (hangs : List ℕ)
    → m < length rows → Draws p0 p1 left (take m rows) (take (m + 1) hangs)
    → Draws p1 p2 right (take (length rows - (m + 1)) (drop (m + 1) rows)) (take (length hangs - (m + 1)) (drop (m + 1) hangs))
    → IsImageOf image r left right → r ≡ get_or rows m r → new ≡ p2 ++ image ∷ []
    → Draws p0 new (r.row + 1) rows hangs
draws_middle p0 p1 p2 new left right m r image rows hangs lt a rest is at new_is =
    let b : Draws p1 p2 right (drop (m + 1) rows) (drop (m + 1) hangs) =
    subst (λ (l : List ℕ). Draws p1 p2 right (drop (m + 1) rows) l)
    (take_all (length hangs - (m + 1)) (drop (m + 1) hangs) (omega (arith, length-drop (m + 1) hangs)))
    (subst (λ (l : List PartRow). Draws p1 p2 right l (take (length hangs - (m + 1)) (drop (m + 1) hangs)))
    (take_all (length rows - (m + 1)) (drop (m + 1) rows) (omega (arith, length-drop (m + 1) rows))) rest) in
    let one : suc m ≡ m + 1 = omega arith in
    let split : take m rows ++ r ∷ drop (m + 1) rows ≡ rows =
    ap (λ (l : List PartRow). take m rows ++ l)
    ((λ j. at j ∷ drop (sym one j) rows) ∙ sym (drop-cons rows m r lt))
    ∙ take-append-drop m rows in
    subst (λ (l : List RowImage). Draws p0 l (r.row + 1) rows hangs) (sym new_is)
    (subst (λ (l : List PartRow). Draws p0 (p2 ++ image ∷ []) (r.row + 1) l hangs) split
    (subst (λ (l : List ℕ). Draws p0 (p2 ++ image ∷ []) (r.row + 1) (take m rows ++ r ∷ drop (m + 1) rows) l)
    (take-append-drop (m + 1) hangs)
    (draws_halves p0 p1 p2 image r left right (take m rows) (drop (m + 1) rows) (take (m + 1) hangs) (drop (m + 1) hangs) is a b)))
