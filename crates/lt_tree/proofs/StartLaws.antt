-- Where the way down ends, the part begins: with the child that overlaps, or with nothing.
use Rattle.std.proofs.Common.{◌≡◌, ◌≢◌, inl, inr, ◌⊎◌, ℕ, ◌<◌, true, List, [], ◌∷◌, refl, sym, ap, ◌∙◌, subst, arith, eq-eqb, ne_eqb, ◌^◌, Bool, false}
use Rattle.std.specs.Prelude.{Option, Some, None, nat_eq, not}
use mathlib.Core.Logic.{dite}
use native.Mathlib.Decide.{ℕ_discrete}
use Rattle.lt_ranges.specs.Key.{key_le}
use Rattle.lt_ranges.specs.Interval.{Interval, IsInterval, before, overlap}
use Rattle.lt_seq.specs.declared.event.Mode.{Mode}
use Rattle.lt_seq.specs.declared.event.Mode.TheVariants.{Tree as TreeMode, Buffer}
use Rattle.lt_forest.specs.Counts.{one_if, times}
use Rattle.lt_forest.specs.Trees.{Node, in_order}
use Rattle.lt_forest.specs.Cuts.{Cut, end, held, Shows, bare}
use Rattle.lt_forest.specs.Forest.{IsTree}
use Rattle.lt_forest.specs.Parts.{rows_of, hangs_of}
use Rattle.lt_forest.specs.Plans.{Top, from_anchor, from_row, IsInGap}
use Rattle.lt_forest.specs.Views.{IsIn, AllHeld}
use Rattle.lt_rows.specs.declared.view.View.{View}
use Rattle.lt_rows.specs.declared.view.Row.{Row}
use Rattle.lt_rows.specs.declared.image.RowImage.{RowImage}
use Rattle.lt_rows.specs.Nodes.{node_of, mode_of}
use Rattle.lt_rows.specs.Views.{has, row_at, image_of}
use Rattle.lt_rows.proofs.Planned.{row_held, held_row}
use Rattle.lt_rows.specs.Views.{rows_of as all_rows}
use Rattle.lt_rows.proofs.NodeRanges.{node_interval}
use Rattle.lt_ranges.proofs.KeyLaws.{le_trans, le_total}
use Rattle.lt_tree.proofs.WideningLaws.{none_more}
use Rattle.lt_tree.proofs.TakingLaws.{hang_small}
use Rattle.lt_tree.proofs.StepLaws.{has_on, spot_on}
use Rattle.lt_tree.specs.States.{KeepsRows}
use Rattle.lt_tree.specs.Descents.{EndsAt, IsLast}
use Rattle.lt_rows.specs.Lawful.{shown, KnowsTop}
use Rattle.lt_tree.specs.States.{HasWords, IsPrepared}
use Rattle.lt_rows.specs.Teaching.{Teaches}
use Rattle.lt_tree.proofs.ViewLaws.{only_gathers}
use Rattle.lt_tree.specs.Descents.{Spot, at_anchor, at_row, Child, IsChild, Stays}
use Rattle.lt_tree.specs.Gathers.{Place, below_top, on_left, on_right, link_at, TopIs, Beside, IsLocked, first_rows, first_hangs}

none_one : (x q : ℕ) → q ≢ x → one_if (nat_eq x q) ≡ 0
none_one x q ne = ap one_if (ne_eqb x q (λ e. ne (sym e)))

-- the part with which the gathering begins
abbrev pub first_cut : Option RowImage → Cut
first_cut None = end 0
first_cut (Some child) = held (end (node_of child.words).left) child.row (end (node_of child.words).right)

-- what the order of keys gives of ranges that lie apart
abbrev pub Apart : Interval → Interval → Type 0
Apart asked range = (before asked range ≡ true → key_le asked.right range.right ≡ true) × (before range asked ≡ true → key_le range.left asked.left ≡ true)

module _ (v : View) (tree : ℕ) (asked : Interval) (here : RowImage) (child : Option RowImage) (st : Stays v tree asked here child) (apart : Apart asked (node_of here.words).range) where
  node_here : shown v [] here.row ≡ node_of here.words
  node_here = ap node_of st.has.2

  here_once : one_if (nat_eq here.row here.row) ≡ 1
  here_once = ap one_if (eq-eqb here.row here.row refl)

  shows : (x : Option RowImage) → Child v asked st.link x → (l : ℕ) → l ≡ st.link → Shows (shown v []) l (first_cut x)
  shows None c l e = e ∙ c
  shows (Some ch) c l e = (e ∙ c.0, ap (λ (n : List ℕ). (node_of n).left) c.1.2, ap (λ (n : List ℕ). (node_of n).right) c.1.2)

  held_rows : (x : Option RowImage) → Child v asked st.link x → AllHeld (IsIn (has v)) (here.row ∷ in_order (bare (first_cut x)))
  held_rows None c q more = dite (ℕ_discrete q here.row) (λ e. subst (IsIn (has v)) (sym e) st.has.0) (λ ne. absurd (let z : one_if (nat_eq here.row q) ≡ 0 = none_one here.row q ne in omega arith))
  held_rows (Some ch) c q more = dite (ℕ_discrete q here.row) (λ e. subst (IsIn (has v)) (sym e) st.has.0)
      (λ ne. dite (ℕ_discrete q ch.row) (λ e. subst (IsIn (has v)) (sym e) c.1.0)
      (λ ne'. absurd (let z : one_if (nat_eq here.row q) ≡ 0 = none_one here.row q ne in let z' : one_if (nat_eq ch.row q) ≡ 0 = none_one ch.row q ne' in omega arith)))

  held_all : (x : Option RowImage) → (q : ℕ) → (q ≡ here.row) ⊎ IsChild x q → 0 < times q (here.row ∷ in_order (bare (first_cut x)))
  held_all x q (inl e) = let o : one_if (nat_eq here.row q) ≡ 1 = ap one_if (eq-eqb here.row q (sym e)) in omega arith
  held_all None q (inr e) = absurd e
  held_all (Some ch) q (inr e) = let o : one_if (nat_eq ch.row q) ≡ 1 = ap one_if (eq-eqb ch.row q (sym e)) in omega arith

  rows_are : (x : Option RowImage) → Child v asked st.link x → rows_of (shown v []) (first_cut x) ≡ first_rows x
  rows_are None c = refl
  rows_are (Some ch) c = ap (λ (ws : List ℕ). record { row = ch.row; owner = (node_of ws).owner; range = (node_of ws).range } ∷ []) c.1.2

  hangs_are : (x : Option RowImage) → hangs_of (first_cut x) ≡ first_hangs x
  hangs_are None = refl
  hangs_are (Some ch) = refl

  begun : (p : Place) (top : Top) (score : ℕ) → KnowsTop v tree top score → TopIs p tree here.row top → IsInGap top asked → Beside p asked (shown v [] here.row).range → link_at p (shown v [] here.row) ≡ st.link
      → IsLocked v tree asked here.row (first_rows child) (first_hangs child)
  begun p top score knows top_is in_gap beside link = record {
    place = p;
    top = top;
    score = score;
    sub = first_cut child;
    knows = knows;
    top_is = top_is;
    in_gap = in_gap;
    beside = beside;
    shows = shows child st.child_is (link_at p (shown v [] here.row)) link;
    held_rows = held_rows child st.child_is;
    held_more = none_more v (here.row ∷ in_order (bare (first_cut child)));
    held_all = λ q h. (let a = held_all child q (st.held_all q h) in omega arith);
    rows_are = rows_are child st.child_is;
    hangs_are = hangs_are child;
    teaches = st.teaches;
    gathers = st.gathers;
  }

  pub starts : IsLocked v tree asked here.row (first_rows child) (first_hangs child)
  starts = go st.spot
    where
      by_mode : (m : Mode) → mode_of here.words ≡ m → IsTree m → here.row ≡ tree → st.link ≡ (node_of here.words).left → IsLocked v tree asked here.row (first_rows child) (first_hangs child)
      by_mode (TreeMode score) e is row link =
          begun below_top from_anchor score (ap mode_of (subst (λ (n : ℕ). HasWords v n here.words) row st.has).2 ∙ e) (row, refl) tt tt (ap (λ (n : Node). n.left) node_here ∙ sym link)
      by_mode (Buffer txn count) e is row link = absurd is

      go : Spot v tree asked here st.link → IsLocked v tree asked here.row (first_rows child) (first_hangs child)
      go (at_anchor row mode link) = by_mode (mode_of here.words) refl mode row link
      go (at_row row g there gap t inside more (inl goes)) =
          begun on_left (from_row here.row (g.low, g.high)) g.score (row, there, gap ∙ ap (λ (n : ℕ). Some (record g { tree = n })) t) ((g.low, g.high), refl) inside
          (subst (λ (n : Node). Beside on_left asked n.range) (sym node_here) (goes.0, apart.0 goes.0)) (ap (λ (n : Node). n.left) node_here ∙ sym goes.1)
      go (at_row row g there gap t inside more (inr goes)) =
          begun on_right (from_row here.row (g.low, g.high)) g.score (row, there, gap ∙ ap (λ (n : ℕ). Some (record g { tree = n })) t) ((g.low, g.high), refl) inside
          (subst (λ (n : Node). Beside on_right asked n.range) (sym node_here) (goes.0, apart.1 goes.0)) (ap (λ (n : Node). n.right) node_here ∙ sym goes.1)

-- links that fit
abbrev pub AllSmall : List ℕ → Type 0
AllSmall hangs = (x : ℕ) → 0 < times x hangs → x < 2 ^ 32

pub left_small : (child : Option RowImage) (ch : RowImage) (l : ℕ) → child ≡ Some ch → AllSmall (first_hangs child) → l ≡ (node_of ch.words).left → l < 2 ^ 32
left_small child ch l is small e =
    subst (λ (x : Option RowImage). AllSmall (first_hangs x)) is small l
    (let o = ap one_if (eq-eqb (node_of ch.words).left l (sym e)) in omega arith)

pub right_small : (child : Option RowImage) (ch : RowImage) (l : ℕ) → child ≡ Some ch → AllSmall (first_hangs child) → l ≡ (node_of ch.words).right → l < 2 ^ 32
right_small child ch l is small e =
    subst (λ (x : Option RowImage). AllSmall (first_hangs x)) is small l
    (let o = ap one_if (eq-eqb (node_of ch.words).right l (sym e)) in omega arith)

-- a row's range lies apart of one that it doesn't overlap
not_true : (b : Bool) → not b ≡ true → b ≡ false
not_true true e = sym e
not_true false e = refl

apart_of : (asked range : Interval) → IsInterval range → Apart asked range
apart_of asked range is = (
  λ b. le_trans asked.right range.left range.right (le_total range.left asked.right (not_true (key_le range.left asked.right) b)) is,
  λ b. le_trans range.left range.right asked.left is (le_total asked.left range.right (not_true (key_le asked.left range.right) b)),
)

pub starts_here : (v : View) (tree : ℕ) (asked : Interval) (here : RowImage) (child : Option RowImage) → Stays v tree asked here child
    → IsLocked v tree asked here.row (first_rows child) (first_hangs child)
starts_here v tree asked here child st =
    starts v tree asked here child st (apart_of asked (node_of here.words).range (node_interval here.words))

pub first_small : (v : View) (tree : ℕ) (asked : Interval) (here : RowImage) (child : Option RowImage) → Stays v tree asked here child
    → tree < v.plan.trees → all_rows v.plan < 4294967296 → (x : ℕ) → 0 < times x (first_hangs child) → x < 4294967296
first_small v tree asked here child st lt few x more =
    let s = hang_small v tree asked here.row (first_rows child) (first_hangs child) (starts_here v tree asked here child st) lt x more in
    omega arith

-- the row that stays

ends_at : (v : View) (asked : Interval) (link : ℕ) (child : Option RowImage) → Child v asked link child → EndsAt v asked link
ends_at v asked link None is = inl is
ends_at v asked link (Some child) is =
    inr (child.row, is.0, is.1.0, ap (λ (ws : List ℕ). overlap (node_of ws).range asked) is.1.2 ∙ is.2)

pub last_first : (v : View) (tree : ℕ) (asked : Interval) (here : RowImage) (child : Option RowImage) → Stays v tree asked here child
    → IsLast v tree asked here.row
last_first v tree asked here child st = record {
  words = here.words;
  link = st.link;
  has_words = st.has;
  spot = st.spot;
  ends = ends_at v asked st.link child st.child_is;
}

pub last_on : (v w : View) (tree : ℕ) (asked : Interval) (here : ℕ) → w.plan ≡ v.plan → KeepsRows v w → IsLast v tree asked here
    → IsLast w tree asked here
last_on v w tree asked here plan keeps l = record {
  words = l.words;
  link = l.link;
  has_words = has_on v w here l.words here_same l.has_words;
  spot = spot_on v w tree asked (record { row = here; words = l.words }) l.link plan here_same l.spot;
  ends = ends_on l.ends;
}
  where
    here_same : row_at w here ≡ row_at v here
    here_same = keeps here (held_row v here l.has_words.0)

    ends_on : EndsAt v asked l.link → EndsAt w asked l.link
    ends_on (inl z) = inl z
    ends_on (inr e) =
        let h = held_row v e.0 e.2 in
        inr (e.0, e.1, row_held w e.0 h.0 (keeps e.0 h ∙ h.1), ap (λ (x : Option Row). overlap (node_of (image_of x)).range asked) (keeps e.0 h) ∙ e.3)

-- with the anchor held the part begins with its link alone

pub anchor_starts : (v : View) (tree : ℕ) (asked : Interval) (anchor : RowImage) → IsPrepared v tree anchor → Teaches v
    → IsTree (mode_of anchor.words) → IsLocked v tree asked tree [] ((node_of anchor.words).left ∷ [])
anchor_starts v tree asked anchor p teaches mode = by_mode (mode_of anchor.words) refl mode
  where
    by_mode : (m : Mode) → mode_of anchor.words ≡ m → IsTree m → IsLocked v tree asked tree [] ((node_of anchor.words).left ∷ [])
    by_mode (TreeMode score) e is = record {
      place = below_top;
      top = from_anchor;
      score = score;
      sub = end ((node_of anchor.words).left);
      knows = ap mode_of p.0.2 ∙ e;
      top_is = (refl, refl);
      in_gap = tt;
      beside = tt;
      shows = ap (λ (ws : List ℕ). (node_of ws).left) p.0.2;
      held_rows = λ q more. dite (ℕ_discrete q tree)
          (λ same. subst (IsIn (has v)) (sym same) p.0.0)
          (λ ne. absurd (let z : one_if (nat_eq tree q) ≡ 0 = none_one tree q ne in omega arith));
      held_more = none_more v (tree ∷ in_order (bare (end ((node_of anchor.words).left))));
      held_all = λ q h. (let o : one_if (nat_eq tree q) ≡ 1 = ap one_if (eq-eqb tree q (sym (p.2 q h))) in omega arith);
      rows_are = refl;
      hangs_are = refl;
      teaches = teaches;
      gathers = only_gathers v tree anchor.words p.0 p.2;
    }
    by_mode (Buffer txn count) e is = absurd is
