-- A part that a plan lays anew for any event, which may change the anchor's mode.
use Rattle.std.specs.Prelude.{◌≡◌, ℕ, List}
use Rattle.lt_forest.specs.declared.part.PartRow.{PartRow}
use Rattle.lt_forest.specs.Trees.{pair_of}
use Rattle.lt_forest.specs.Cuts.{Cut, Shows}
use Rattle.lt_forest.specs.Parts.{rows_of, hangs_of}
use Rattle.lt_rows.specs.declared.image.RowImage.{RowImage}
use Rattle.lt_rows.specs.declared.view.View.{View}
use Rattle.lt_rows.specs.Lawful.{shown, shown_after}
use Rattle.lt_tree.specs.Gathers.{Place, below_top, on_left, on_right, link_at}

-- where the row that stays is no anchor, it shows another link alone with a plan's images
abbrev pub RowStays : View → List RowImage → ℕ → Place → Type 0
RowStays v plan here below_top = Unit {0}
RowStays v plan here on_left =
    (pair_of (shown v plan) here ≡ pair_of (shown_after v plan) here) × ((shown v plan here).right ≡ (shown_after v plan here).right)
RowStays v plan here on_right =
    (pair_of (shown v plan) here ≡ pair_of (shown_after v plan) here) × ((shown v plan here).left ≡ (shown_after v plan here).left)

-- Below the row that stays the plan's images show these rows and hangs, in key order.
pub record LaysRows (v : View) (plan : List RowImage) (place : Place) (here : ℕ) (rows : List PartRow) (hangs : List ℕ) : Type 0 where
  pub new : Cut
  pub shows : Shows (shown_after v plan) (link_at place (shown_after v plan here)) new
  pub rows_are : rows_of (shown_after v plan) new ≡ rows
  pub hangs_are : hangs_of new ≡ hangs
  pub beside : RowStays v plan here place
