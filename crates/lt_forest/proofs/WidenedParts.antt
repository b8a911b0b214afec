-- A part that is widened is a part, and a closed one stays closed; how a pass sees it.
use Rattle.std.proofs.Common.{◌≡◌, ◌⊎◌, inl, inr, ℕ, ◌+◌, ◌<◌, List, ◌∷◌, sym, ap, subst, arith, ne_eqb}
use Rattle.std.specs.Prelude.{nat_eq}
use mathlib.Core.Logic.{dite}
use native.Mathlib.Decide.{ℕ_discrete}
use Rattle.lt_ranges.specs.Interval.{Interval}
use Rattle.lt_seq.specs.declared.event.Mode.{Mode}
use Rattle.lt_seq.specs.Pairs.{IsLawful}
use Rattle.lt_seq.specs.Sound.{AllSound}
use Rattle.lt_seq.specs.Table.{TreeState}
use Rattle.lt_forest.specs.Counts.{one_if, times}
use Rattle.lt_forest.specs.Trees.{Nodes}
use Rattle.lt_forest.specs.Cuts.{Cut, IsRow}
use Rattle.lt_forest.specs.Forest.{Forest, IsTree, IsForest}
use Rattle.lt_forest.specs.Plans.{Top, top_link, IsSeen, IsPart, IsClosedFor}
use Rattle.lt_forest.specs.Links.{Slot, row_with, link_in}
use Rattle.lt_forest.specs.Widenings.{Widens}
use Rattle.lt_forest.specs.Views.{Agrees, HoldsPart}
use Rattle.lt_forest.proofs.SameRows.{times-++}
use Rattle.lt_forest.proofs.PartLaws.{part_lawful}
use Rattle.lt_forest.proofs.NamedInCuts.{names_in}
use Rattle.lt_forest.proofs.HangsAside.{widened_aside}
use Rattle.lt_forest.proofs.PlansInView.{true_part, true_pairs}

module _ {trees rows t r : ℕ} {c : Nodes} {mode : ℕ → Mode} {state : List TreeState} {f : Forest} {top : Top} {cut : Cut}
    {before behind : List ℕ} (part : IsPart trees rows c mode state f t top cut)
    (w : Widens c (top_link top (c t)) cut r before behind) where
  pub wider_part : IsPart trees rows c mode state f t top w.wider
  wider_part = record {
    forest = part.forest;
    sound = part.sound;
    tree = part.tree;
    tree_mode = part.tree_mode;
    seen = part.seen;
    shows = w.shows;
  }

  pub wider_closed : (range : Interval) → IsClosedFor range top c cut → IsClosedFor range top c w.wider
  wider_closed range closed = record {
    in_gap = closed.in_gap;
    aside = widened_aside c (top_link top (c t)) cut r before behind w range (part_lawful wider_part) closed.aside;
  }

-- the same in a pass's view

-- a row of the wider cut is one of the old, or the row taken into it
wider_rows : (c : Nodes) (link : ℕ) (cut : Cut) (r : ℕ) (before behind : List ℕ) (w : Widens c link cut r before behind) (q : ℕ)
    → IsRow q w.wider → (q ≡ r) ⊎ IsRow q cut
wider_rows c link cut r before behind w q some = dite (ℕ_discrete r q)
    (λ e. inl (sym e))
    (λ ne.
    let z : one_if (nat_eq r q) ≡ 0 = ap one_if (ne_eqb r q ne) in
    let a = ap (times q) w.new_rows in
    let b = ap (times q) w.old_rows in
    let m = times-++ q w.rows_before (r ∷ w.rows_behind) in
    let n = times-++ q w.rows_before w.rows_behind in
    inr (omega arith))

pub wider_held : {has : ℕ → Type 0} {t r : ℕ} {v : Nodes} {top : Top} {cut : Cut} {before behind : List ℕ}
    → (w : Widens v (top_link top (v t)) cut r before behind) → HoldsPart has t top v cut → has r → HoldsPart has t top v w.wider
wider_held {has = has} {t = t} {r = r} {v = v} {top = top} {cut = cut} {before = before} {behind = behind} w part held = record {
  top_held = part.top_held;
  shows = w.shows;
  rows = λ q some. elim (wider_rows v (top_link top (v t)) cut r before behind w q some) [
    | inl e ↦ subst has (sym e) held
    | inr k ↦ part.rows q k
  ];
}

module _ {has : ℕ → Type 0} {v c : Nodes} {trees rows t r : ℕ} {mode : ℕ → Mode} {state : List TreeState} {f : Forest} {top : Top}
    {cut : Cut} {before behind : List ℕ} (forest : IsForest trees rows c mode state f) (sound : AllSound state) (tree : t < trees)
    (tree_mode : IsTree (mode t)) (seen : IsSeen c (f.tree t) top) (agrees : Agrees has v c) (part : HoldsPart has t top v cut)
    (w : Widens v (top_link top (v t)) cut r before behind) (held : has r) where
  pub held_wider_closed : (range : Interval) → IsClosedFor range top v cut → IsClosedFor range top v w.wider
  held_wider_closed range closed =
      let wide = wider_held w part held in
      record {
        in_gap = closed.in_gap;
        aside = widened_aside v (top_link top (v t)) cut r before behind w range
            (subst IsLawful (sym (true_pairs agrees wide)) (part_lawful (true_part agrees wide forest sound tree tree_mode seen))) closed.aside;
      }

-- a row of a part that is held is named by the link to it, or by a link of a row that is held
pub held_named : {has : ℕ → Type 0} {t : ℕ} {v : Nodes} {top : Top} {cut : Cut} → HoldsPart has t top v cut → (q : ℕ) → IsRow q cut
    → (top_link top (v t) ≡ q + 1) ⊎ ((s : Slot) × IsRow (row_with s) cut × has (row_with s) × (link_in v s ≡ q + 1))
held_named {t = t} {v = v} {top = top} {cut = cut} part q some = elim (names_in v (top_link top (v t)) cut q part.shows some) [
  | inl e ↦ inl e
  | inr n ↦ inr (n.0, n.1, part.rows (row_with n.0) n.1, n.2)
]
