-- What the anchor shows after a search: a turn gives it another link alone, and it has no estimate.
use Rattle.std.proofs.Common.{◌≡◌, ℕ, ◌+◌, List, refl, sym, ap, ◌∙◌, subst, arith}
use Rattle.lt_ranges.specs.Interval.{Interval}
use Rattle.lt_forest.specs.Trees.{Node}
use Rattle.lt_rows.specs.declared.view.View.{View}
use Rattle.lt_rows.specs.declared.image.RowImage.{RowImage}
use Rattle.lt_rows.specs.Nodes.{node_of}
use Rattle.lt_rows.specs.Views.{row_at, words_of, images}
use Rattle.lt_rows.proofs.Planned.{held_row}
use Rattle.lt_tree.specs.declared.estimates.Side.{Side}
use Rattle.lt_tree.specs.declared.estimates.Side.TheVariants.{Left, Right}
use Rattle.lt_tree.specs.States.{HasWords, KeepsRows}
use Rattle.lt_tree.specs.Descents.{ShowsAs}
use Rattle.lt_tree.specs.Turnings.{with_link, IsMeasured, StaysAs}
use Rattle.lt_tree.proofs.StepLaws.{has_on}
use Rattle.lt_tree.proofs.TurningLaws.{IsTurn}

pub shows_same : (ws : List ℕ) → ShowsAs ws ws
shows_same ws = (refl, λ none. none)

pub shows_on : (was mid is : List ℕ) → ShowsAs was mid → ShowsAs mid is → ShowsAs was is
shows_on was mid is one two = (two.0 ∙ one.0, λ none. one.1 (two.1 none))

pub stays_same : (tree : ℕ) (here : RowImage) → StaysAs tree here here
stays_same tree here = (refl, λ is. shows_same here.words)

pub stays_measured : (tree : ℕ) (here now : RowImage) → IsMeasured tree here now → StaysAs tree here now
stays_measured tree here now m = (m.0, λ is. (m.2 is, λ none. ap (λ (n : Node). n.left) (sym m.1) ∙ none))

-- a link to a row is none that is missing
hung_before : (near : Side) (row : ℕ) (n : Node) → (with_link near (row + 1) n).left ≡ 0 → n.left ≡ 0
hung_before Left row n none = absurd (omega (arith, none))
hung_before Right row n none = none

pub stays_turned : (v : View) (tree : ℕ) (asked : Interval) (here child low stays upper lower : RowImage) (side near : Side)
    → IsTurn v tree asked here child low stays upper lower side near → StaysAs tree here stays
stays_turned v tree asked here child low stays upper lower side near t = (
  t.stays_row,
  λ is. (
    t.stays_mode is,
    λ none. hung_before near low.row (node_of here.words) (ap (λ (n : Node). n.left) (sym t.stays_node) ∙ none),
  ),
)

-- what stayed held shows so in the end
pub anchor_shows : (v w u : View) (tree : ℕ) (image anchor here : RowImage) → HasWords v tree image.words
    → anchor.words ≡ words_of (row_at v tree) → (here.row ≡ tree → ShowsAs anchor.words here.words)
    → HasWords w here.row here.words → KeepsRows w u → here.row ≡ tree → ShowsAs image.words (images u tree)
anchor_shows v w u tree image anchor here was loaded shows has keeps is =
    let now : images u here.row ≡ here.words =
    (has_on w u here.row here.words (keeps here.row (held_row w here.row has.0)) has).2 in
    let there : here.words ≡ images u tree = sym now ∙ ap (images u) is in
    subst (λ (ws : List ℕ). ShowsAs ws (images u tree)) (loaded ∙ was.1)
    (subst (λ (ws : List ℕ). ShowsAs anchor.words ws) there (shows is))
