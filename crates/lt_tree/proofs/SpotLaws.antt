-- The gap of the row to which a search goes on.
use Rattle.std.proofs.Common.{◌≡◌, inl, inr, ℕ, ◌+◌, ◌<◌, ◌≤◌, List, [], refl, sym, ap, ◌∙◌, subst, arith}
use Rattle.std.specs.Prelude.{Option, Some, None}
use Rattle.lt_ranges.specs.Interval.{Interval, before}
use Rattle.lt_seq.specs.declared.event.Event.{Event}
use Rattle.lt_seq.specs.declared.event.Mode.{Mode}
use Rattle.lt_seq.specs.declared.event.Mode.TheVariants.{Tree as TreeMode, Buffer}
use Rattle.lt_forest.specs.Bounds.{IsInside}
use Rattle.lt_forest.specs.Trees.{Node}
use Rattle.lt_forest.specs.Forest.{IsTree}
use Rattle.lt_forest.specs.Views.{IsIn}
use Rattle.lt_forest.specs.Links.{Slot, left_of, right_of, row_with, link_in, IsLink}
use Rattle.lt_rows.specs.declared.view.View.{View}
use Rattle.lt_rows.specs.declared.view.Row.{Row}
use Rattle.lt_rows.specs.declared.view.SeenGap.{SeenGap}
use Rattle.lt_rows.specs.declared.image.RowImage.{RowImage}
use Rattle.lt_rows.specs.Nodes.{node_of, mode_of}
use Rattle.lt_rows.specs.Views.{Holds, has, image_of, rows_of}
use Rattle.lt_rows.specs.Lawful.{shown}
use Rattle.lt_rows.proofs.Planned.{row_held}
use Rattle.lt_rows.proofs.Lessons.{names_further, of_anchor, of_gap}
use Rattle.lt_rows.specs.Gaps.{gap_for}
use Rattle.lt_rows.specs.Rule.{Stood}
use Rattle.lt_rows.specs.Woods.{woods}
use Rattle.lt_rows.proofs.Frames.{Some-is}
use Rattle.lt_rows.proofs.Gapped.{gap_at_top, gap_at_left, gap_at_right}
use Rattle.lt_tree.specs.Descents.{GoesTo, Spot, at_anchor, at_row}

-- a gap of this tree in which the asked range lies
abbrev pub IsGapFor : ℕ → Interval → Option SeenGap → Type 0
IsGapFor tree asked x = (g : SeenGap) × (x ≡ Some g) × (g.tree ≡ tree) × IsInside g.low g.high asked

-- the row is held with such a gap
abbrev pub HasGapFor : View → ℕ → Interval → ℕ → Type 0
HasGapFor v tree asked r = (row : Row) × (g : SeenGap) × Holds v r row × (row.gap ≡ Some g) × (g.tree ≡ tree) × IsInside g.low g.high asked

-- the row to which the link leads is given such a gap by the held row
module _ (v : View) (log : List Event) (st : Stood (woods v.plan) v log) (tree : ℕ) (lt : tree < v.plan.trees)
    (asked : Interval) (here : RowImage) (link r : ℕ) (names : link ≡ r + 1)
    (held : (row : Row) × Holds v here.row row) (counts : held.0.image ≡ here.words) where
  abbrev Given : Type 0
  Given = IsGapFor tree asked (gap_for v r)

  image_now : (row : Row) → Holds v here.row row → row.image ≡ here.words
  image_now row h = ap (λ (x : Row). x.image) (Some-is row held.0 (sym h ∙ held.1)) ∙ counts

  left_now : (row : Row) → Holds v here.row row → link ≡ (node_of here.words).left → (node_of row.image).left ≡ r + 1
  left_now row h is = ap (λ (ws : List ℕ). (node_of ws).left) (image_now row h) ∙ (sym is ∙ names)

  right_now : (row : Row) → Holds v here.row row → link ≡ (node_of here.words).right → (node_of row.image).right ≡ r + 1
  right_now row h is = ap (λ (ws : List ℕ). (node_of ws).right) (image_now row h) ∙ (sym is ∙ names)

  pub spot_gap : Spot v tree asked here link → Given
  spot_gap spot = go spot
    where
      by_mode : (m : Mode) → mode_of here.words ≡ m → IsTree m → here.row ≡ tree → link ≡ (node_of here.words).left → Given
      by_mode (TreeMode score) em is row left = (
        record { tree = tree; low = None; high = None; score = score },
        gap_at_top v log st r tree score held.0 lt (subst (λ (n : ℕ). Holds v n held.0) row held.1) (ap mode_of counts ∙ em)
            (left_now held.0 held.1 left),
        refl,
        (tt, tt),
      )
      by_mode (Buffer txn count) em is row left = absurd is

      below : (row : Row) (g : SeenGap) → Holds v here.row row → row.gap ≡ Some g → g.tree ≡ tree → IsInside g.low g.high asked
          → v.plan.trees ≤ here.row → GoesTo asked (node_of here.words) link → Given
      below row g h gap t inside le (inl goes) = (
        record g { high = Some (node_of row.image).range.left },
        gap_at_left v log st r here.row row g le h gap (left_now row h goes.1),
        t,
        (inside.0, ap (λ (ws : List ℕ). before asked (node_of ws).range) (image_now row h) ∙ goes.0),
      )
      below row g h gap t inside le (inr goes) = (
        record g { low = Some (node_of row.image).range.right },
        gap_at_right v log st r here.row row g le h gap (right_now row h goes.1),
        t,
        (ap (λ (ws : List ℕ). before (node_of ws).range asked) (image_now row h) ∙ goes.0, inside.1),
      )

      go : Spot v tree asked here link → Given
      go (at_anchor row mode is) = by_mode (mode_of here.words) refl mode row is
      go (at_row row g h gap t inside more goes) = below row g h gap t inside (omega arith) goes

  -- the slot with the link
  abbrev Slotted : Type 0
  Slotted = (s : Slot) × (row_with s ≡ here.row) × IsLink v.plan.trees st.forest s × (link_in (shown v []) s ≡ r + 1)

  shown_now : shown v [] here.row ≡ node_of here.words
  shown_now = ap (λ (x : Option Row). node_of (image_of x)) held.1 ∙ ap node_of counts

  left_is : link ≡ (node_of here.words).left → link_in (shown v []) (left_of here.row) ≡ r + 1
  left_is e = ap (λ (n : Node). n.left) shown_now ∙ (sym e ∙ names)

  right_is : link ≡ (node_of here.words).right → link_in (shown v []) (right_of here.row) ≡ r + 1
  right_is e = ap (λ (n : Node). n.right) shown_now ∙ (sym e ∙ names)

  spot_slot : Spot v tree asked here link → Slotted
  spot_slot (at_anchor row mode is) = (left_of here.row, refl, of_anchor v log st here.row (omega arith), left_is is)
  spot_slot (at_row row g h gap t inside more (inl goes)) =
      (left_of here.row, refl, (of_gap v log st here.row row g h gap).0, left_is goes.1)
  spot_slot (at_row row g h gap t inside more (inr goes)) =
      (right_of here.row, refl, (of_gap v log st here.row row g h gap).1, right_is goes.1)

  -- and it is a further row
  pub spot_further : Spot v tree asked here link → (v.plan.trees < r) × (r < rows_of v.plan)
  spot_further spot =
      let s = spot_slot spot in
      elim (names_further v log st s.0 (subst (IsIn (has v)) (sym s.1) (row_held v here.row held.0 held.1)) s.2) [
        | inl z ↦ let is = s.3 in absurd (omega arith)
        | inr x ↦ let is = x.1 in let same = s.3 in let more = x.2 in let less = x.3 in (omega arith, omega arith)
      ]
