-- The images of held rows, by their numbers.
use Rattle.std.proofs.Common.{◌≡◌, ◌≢◌, ℕ, ◌-◌, ◌<◌, List, sym, ◌∙◌, subst}
use Rattle.std.specs.Prelude.{Some}
use Rattle.lt_ranges.specs.Interval.{Interval}
use Rattle.lt_rows.specs.declared.view.View.{View}
use Rattle.lt_rows.specs.declared.image.RowImage.{RowImage}
use Rattle.lt_rows.specs.declared.take.Take.TheVariants.{Taken}
use Rattle.lt_rows.specs.Views.{IsHeld}
use Rattle.lt_rows.proofs.Planned.{held_row}
use Rattle.lt_tree.specs.declared.descent.Stop.{Stop}
use Rattle.lt_tree.specs.States.{HasWords, Seizes, image_at}
use Rattle.lt_tree.specs.Descents.{Descends, Arrives, ShowsAs}
use Rattle.lt_tree.specs.Turnings.{HoldsPair, HoldsPath, StaysAs}
use Rattle.lt_tree.proofs.ViewLaws.{seized_else}
use Rattle.lt_tree.proofs.DownLaws.{not_held}

pub held_image : (v : View) (p : RowImage) → HasWords v p.row p.words → p ≡ image_at v p.row
held_image v p h i = record { row = p.row; words = sym h.1 i }

-- two images that the pass holds are those of their rows
pub pair_images : (w : View) (tree : ℕ) (asked : Interval) (stays below : RowImage) (here : ℕ) → stays.row ≡ here
    → HoldsPair w tree asked stays below → HoldsPair w tree asked (image_at w here) (image_at w below.row)
pair_images w tree asked stays below here is p =
    subst (λ (n : ℕ). HoldsPair w tree asked (image_at w n) (image_at w below.row)) is
    (subst (λ (m : RowImage). HoldsPair w tree asked m (image_at w below.row)) (held_image w stays p.has)
    (subst (HoldsPair w tree asked stays) (held_image w below p.child_has) p))

-- the row at which a search is stays held where another is taken
pub here_seized : (v w : View) (tree : ℕ) (asked : Interval) (here : RowImage) (link steps : ℕ) (above : List ℕ)
    → Descends v tree asked here link steps above → tree < v.plan.trees → link ≢ 0 → Seizes (link - 1) v w Taken → IsHeld w here.row
here_seized v w tree asked here link steps above d t some s =
    let h = held_row v here.row d.has.0 in
    (h.0, seized_else (link - 1) v w s here.row (not_held v tree asked here link steps above d t some here.row h) ∙ h.1)

pub path_image : (w : View) (tree : ℕ) (asked : Interval) (here child : RowImage) (steps : ℕ) (above : List ℕ)
    → HoldsPath w tree asked here child steps above → HoldsPath w tree asked (image_at w here.row) child steps above
path_image w tree asked here child steps above p =
    subst (λ (m : RowImage). HoldsPath w tree asked m child steps above) (held_image w here p.has) p

pub descends_image : (v : View) (tree : ℕ) (asked : Interval) (here : RowImage) (link steps : ℕ) (above : List ℕ)
    → Descends v tree asked here link steps above → Descends v tree asked (image_at v here.row) link steps above
descends_image v tree asked here link steps above d =
    subst (λ (m : RowImage). Descends v tree asked m link steps above) (held_image v here d.has) d

-- The row stays as it was, and what it shows now is what stands in it.
pub stays_now : (w : View) (tree : ℕ) (was : RowImage) → HasWords w was.row was.words → StaysAs tree was was → StaysAs tree was (image_at w was.row)
stays_now w tree was has s = subst (StaysAs tree was) (held_image w was has) s

pub stays_before : (w : View) (tree : ℕ) (was now : RowImage) → HasWords w was.row was.words → StaysAs tree (image_at w was.row) now
    → StaysAs tree was now
stays_before w tree was now has s = subst (λ (m : RowImage). StaysAs tree m now) (sym (held_image w was has)) s

-- Where nothing is done but a load.

pub path_same : (w x : View) (tree : ℕ) (asked : Interval) (here child steps : ℕ) (above : List ℕ) → x ≡ w
    → HoldsPath w tree asked (image_at w here) (image_at w child) steps above → HoldsPath x tree asked (image_at x here) (image_at x child) steps above
path_same w x tree asked here child steps above same p =
    subst (λ (y : View). HoldsPath y tree asked (image_at y here) (image_at y child) steps above) (sym same) p

pub arrived : (x u : View) (tree : ℕ) (asked : Interval) (here child : ℕ) (above : List ℕ) (s : Stop) → u ≡ x
    → s ≡ record { here = image_at x here; child = Some (image_at x child) }
    → Arrives x tree asked (image_at x here) (Some (image_at x child)) above → Arrives u tree asked s.here s.child above
arrived x u tree asked here child above s same is a =
    subst (λ (t : Stop). Arrives u tree asked t.here t.child above) (sym is)
    (subst (λ (y : View). Arrives y tree asked (image_at x here) (Some (image_at x child)) above) (sym same) a)

pub shows_there : (x : View) (tree here child : ℕ) (words : List ℕ) (s : Stop) → s ≡ record { here = image_at x here; child = Some (image_at x child) }
    → (here ≡ tree → ShowsAs words (image_at x here).words) → s.here.row ≡ tree → ShowsAs words s.here.words
shows_there x tree here child words s is shows =
    subst (λ (t : Stop). t.here.row ≡ tree → ShowsAs words t.here.words) (sym is) shows
