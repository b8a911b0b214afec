-- A step of a search on its way down, from a row and its child that it holds.
use Rattle.std.proofs.Common.{◌≡◌, ◌≢◌, inl, inr, ⊎_elim, ◌⊎◌, ℕ, ◌+◌, ◌-◌, ◌<◌, ◌≤◌, Bool, true, false, List, [], ◌∷◌, ◌++◌, refl, sym, ap, ◌∙◌, subst, arith, eq-eqb}
use Rattle.std.specs.Prelude.{Some, None, nat_eq}
use borrow.Author.Tests.{eqb-true}
use Rattle.lt_ranges.specs.Interval.{Interval, overlap}
use Rattle.lt_forest.specs.Counts.{one_if, times}
use Rattle.lt_forest.proofs.SameRows.{times-++}
use Rattle.lt_rows.specs.declared.view.View.{View}
use Rattle.lt_rows.specs.declared.view.Row.{Row}
use Rattle.lt_rows.specs.declared.image.RowImage.{RowImage}
use Rattle.lt_rows.specs.Nodes.{node_of}
use Rattle.lt_rows.specs.Views.{Holds, IsHeld, with_row}
use Rattle.lt_rows.proofs.Planned.{held_row}
use Rattle.lt_tree.specs.States.{HasWords}
use Rattle.lt_tree.specs.Puttings.{Backs}
use Rattle.lt_tree.specs.Descents.{free_rows, GoesTo, Spot, at_row, IsAbove, Descends, Arrives}
use Rattle.lt_tree.specs.Turnings.{HoldsPair, HoldsPath}
use Rattle.lt_tree.proofs.ViewLaws.{put_gathers}
use Rattle.lt_tree.proofs.StepLaws.{has_on, spot_on, put_plan, put_else, put_differs, put_back, put_teaches, put_free}

one_most : (b : Bool) → one_if b ≤ 1
one_most true = omega arith
one_most false = omega arith

-- while steps are left it holds the two alone
pub path_pair : (v : View) (tree : ℕ) (asked : Interval) (here child : RowImage) (steps : ℕ) (above : List ℕ)
    → 0 < steps → HoldsPath v tree asked here child steps above → HoldsPair v tree asked here child
path_pair v tree asked here child steps above more p = record {
  has = p.has;
  child_has = p.child_has;
  teaches = p.teaches;
  spot = p.spot;
  gap = p.gap;
  further = p.further;
  apart = p.apart;
  held = λ q h. ⊎_elim (λ (is : q ≡ child.row). inl is)
      (λ (o : (q ≡ here.row) ⊎ (0 < times q above)). ⊎_elim (λ (is : q ≡ here.row). inr is)
      (λ (some : 0 < times q above). let z : times q above ≡ 0 = ap (times q) (p.first more) in absurd (omega arith)) o)
      (p.held q h);
  gathers = p.gathers;
}

pub pair_path : (v : View) (tree : ℕ) (asked : Interval) (here child : RowImage) (steps : ℕ) (above : List ℕ)
    → 0 < steps → above ≡ [] → HoldsPair v tree asked here child → HoldsPath v tree asked here child steps above
pair_path v tree asked here child steps above more none p = record {
  has = p.has;
  child_has = p.child_has;
  teaches = p.teaches;
  spot = p.spot;
  gap = p.gap;
  further = p.further;
  apart = p.apart;
  held = λ q h. ⊎_elim (λ (is : q ≡ child.row). inl is) (λ (is : q ≡ here.row). inr (inl is)) (p.held q h);
  leads = λ z. absurd (omega arith);
  kept = λ q some. (let z = none_of q in absurd (omega arith));
  once = λ q. (let z = none_of q in omega arith);
  here_above = none_of here.row;
  child_above = none_of child.row;
  first = λ some. none;
  gathers = p.gathers;
}
  where
    none_of : (q : ℕ) → times q above ≡ 0
    none_of q = ap (times q) none

module _ (w : View) (tree : ℕ) (asked : Interval) (here child : RowImage) (steps : ℕ) (above : List ℕ)
    (p : HoldsPath w tree asked here child steps above) where
  -- the search has arrived, as the child overlaps
  pub arrives_here : overlap (node_of child.words).range asked ≡ true → Arrives w tree asked here (Some child) above
  arrives_here over = record {
    link = child.row + 1;
    has = p.has;
    teaches = p.teaches;
    spot = p.spot;
    child_is = (refl, p.child_has, over);
    held_all = λ q h. ⊎_elim
        (λ (is : q ≡ child.row). inr (inl is))
        (λ (o : (q ≡ here.row) ⊎ (0 < times q above)). ⊎_elim
        (λ (is : q ≡ here.row). inl is)
        (λ (more : 0 < times q above). inr (inr more))
        o)
        (p.held q h);
    apart = p.here_above;
    child_apart = λ q is. ap (λ (n : ℕ). times n above) is ∙ p.child_above;
    keeps = record { held = p.kept; once = p.once; gathers = p.gathers };
  }

  there : (row : Row) × Holds w here.row row
  there = held_row w here.row p.has.0

  child_spot : (on : ℕ) → GoesTo asked (node_of child.words) on → Spot w tree asked child on
  child_spot on goes = at_row p.gap.0 p.gap.1 p.gap.2 p.gap.3 p.gap.4 p.gap.5 p.further goes

  -- the parent is put
  module _ (u : View) (put : u ≡ with_row w here.row None) where
    pub child_put : HasWords u child.row child.words
    child_put = has_on w u child.row child.words (put_else w u here.row put there child.row p.apart) p.child_has

    pub put_free_rows : free_rows u.held ≡ free_rows w.held + 1
    put_free_rows = put_free w u here.row put there

    put_held : (q : ℕ) → IsHeld u q → (q ≡ child.row) ⊎ (0 < times q above)
    put_held q h = elim (p.held q (h.0, put_back w u here.row put there q h.0 h.1)) [
      | inl is ↦ inl is
      | inr o ↦ elim o [
        | inl is ↦ absurd (put_differs w u here.row put there q h is)
        | inr some ↦ inr some
      ]
    ]

    pub put_on : (on : ℕ) → GoesTo asked (node_of child.words) on → 0 < steps → Descends u tree asked child on (steps - 1) above
    put_on on goes more = record {
      has = child_put;
      teaches = put_teaches w u here.row put there p.teaches;
      spot = spot_on w u tree asked child on (put_plan w u here.row put there) (put_else w u here.row put there child.row p.apart) (child_spot on goes);
      held = put_held;
      kept = λ q more'. (let n : times q above ≡ 0 = ap (times q) (p.first more) in absurd (omega arith));
      once = p.once;
      apart = ap (times child.row) (p.first more);
      first = λ more'. p.first more;
      gathers = put_gathers here.row w u there.0 there.1 put p.gathers;
    }

    -- and the child too: no memory was there to keep the parent
    module _ (u' : View) (put' : u' ≡ with_row u child.row None) where
      there' : (row : Row) × Holds u child.row row
      there' = held_row u child.row child_put.0

      other : (q : ℕ) → 0 < times q above → q ≢ here.row
      other q more is = let z = p.here_above in let same : times q above ≡ times here.row above = ap (λ (n : ℕ). times n above) is in omega arith

      other' : (q : ℕ) → 0 < times q above → q ≢ child.row
      other' q more is = let z = p.child_above in let same : times q above ≡ times child.row above = ap (λ (n : ℕ). times n above) is in omega arith

      still : (q : ℕ) → 0 < times q above → IsHeld u' q
      still q more =
          let h = p.kept q more in
          (h.0, put_else u u' child.row put' there' q (other' q more) ∙ (put_else w u here.row put there q (other q more) ∙ h.1))

      all : (q : ℕ) → IsHeld u' q → 0 < times q above
      all q h = ⊎_elim
          (λ (is : q ≡ child.row). absurd (put_differs u u' child.row put' there' q h is))
          (λ (more : 0 < times q above). more)
          (put_held q (h.0, put_back u u' child.row put' there' q h.0 h.1))

      pub backs_both : Backs u' above
      backs_both = record {
        keeps = record {
          held = still;
          once = p.once;
          gathers = put_gathers child.row u u' there'.0 there'.1 put' (put_gathers here.row w u there.0 there.1 put p.gathers);
        };
        held_all = all;
      }

  -- the parent is kept
  module _ (above' : List ℕ) (push : above' ≡ above ++ here.row ∷ []) where
    here_once : (q : ℕ) → times q above' ≡ times q above + (one_if (nat_eq here.row q) + 0)
    here_once q = ap (λ (xs : List ℕ). times q xs) push ∙ times-++ q above (here.row ∷ [])

    one_or : (q : ℕ) → (q ≡ here.row) ⊎ (times q above' ≡ times q above)
    one_or q = go (nat_eq here.row q) refl
      where
        go : (b : Bool) → nat_eq here.row q ≡ b → (q ≡ here.row) ⊎ (times q above' ≡ times q above)
        go true e = inl (sym (eqb-true here.row q e))
        go false e = inr (let h = here_once q in let z : one_if (nat_eq here.row q) ≡ 0 = ap one_if e in omega arith)

    was_held : (q : ℕ) → 0 < times q above' → IsHeld w q
    was_held q more = elim (one_or q) [
      | inl is ↦ subst (λ (n : ℕ). IsHeld w n) (sym is) there
      | inr same ↦ p.kept q (omega arith)
    ]

    keep_once : (q : ℕ) → times q above' ≤ 1
    keep_once q = elim (one_or q) [
      | inl is ↦ let a : times q above ≡ 0 = ap (λ (n : ℕ). times n above) is ∙ p.here_above in let h = here_once q in let o = one_most (nat_eq here.row q) in omega arith
      | inr same ↦ let o = p.once q in omega arith
    ]

    keep_apart : times child.row above' ≡ 0
    keep_apart = elim (one_or child.row) [ inl is ↦ absurd (p.apart is) | inr same ↦ same ∙ p.child_above ]

    not_child : (q : ℕ) → 0 < times q above' → q ≢ child.row
    not_child q more is = let z = keep_apart in let same : times q above' ≡ times child.row above' = ap (λ (n : ℕ). times n above') is in omega arith

    keep_kept : steps ≡ 0 → (q : ℕ) → 0 < times q above' → IsAbove w tree q child.row
    keep_kept used q more =
        let h = was_held q more in (
          h,
          elim (p.leads used q h (not_child q more)) [ inl is ↦ inl is | inr l ↦ inr (p.further, l) ],
        )

    keep_held : (q : ℕ) → IsHeld w q → (q ≡ child.row) ⊎ (0 < times q above')
    keep_held q h = elim (p.held q h) [
      | inl is ↦ inl is
      | inr o ↦ inr (let e = here_once q in elim o [
        | inl is ↦ let z : one_if (nat_eq here.row q) ≡ 1 = ap one_if (eq-eqb here.row q (sym is)) in omega arith
        | inr more ↦ omega arith
      ])
    ]

    pub keep_on : (on : ℕ) → GoesTo asked (node_of child.words) on → steps ≡ 0 → Descends w tree asked child on 0 above'
    keep_on on goes used = record {
      has = p.child_has;
      teaches = p.teaches;
      spot = child_spot on goes;
      held = keep_held;
      kept = keep_kept used;
      once = keep_once;
      apart = keep_apart;
      first = λ more. absurd (omega arith);
      gathers = p.gathers;
    }
