-- The ends of the way down: where it begins, where it arrives, and what it gives back.
use Rattle.std.proofs.Common.{◌≡◌, ◌≢◌, inl, inr, ⊎_elim, ◌⊎◌, ℕ, ◌<◌, List, [], refl, sym, ap, ◌∙◌, arith}
use Rattle.std.specs.Prelude.{Option, Some, None}
use mathlib.Core.Logic.{dite}
use native.Mathlib.Decide.{ℕ_discrete}
use Rattle.lt_ranges.specs.Interval.{Interval}
use Rattle.lt_forest.specs.Counts.{times}
use Rattle.lt_forest.specs.Forest.{IsTree}
use Rattle.lt_rows.specs.declared.view.View.{View}
use Rattle.lt_rows.specs.declared.view.Row.{Row}
use Rattle.lt_rows.specs.declared.image.RowImage.{RowImage}
use Rattle.lt_rows.specs.Nodes.{node_of, mode_of}
use Rattle.lt_rows.specs.Views.{Holds, IsHeld, with_row}
use Rattle.lt_rows.specs.Teaching.{Teaches}
use Rattle.lt_rows.proofs.Frames.{Some-none}
use Rattle.lt_rows.proofs.Planned.{held_row}
use Rattle.lt_tree.specs.States.{OnlyMet, IsPrepared}
use Rattle.lt_tree.specs.Puttings.{Backs, Puts}
use Rattle.lt_tree.specs.Descents.{at_anchor, Descends, Child, IsChild, Arrives, Stays}
use Rattle.lt_tree.proofs.ViewLaws.{met_rows, met_gathers, put_gathers, only_gathers}
use Rattle.lt_tree.proofs.StepLaws.{has_on, spot_on, put_else, put_differs, put_back}

none_in : (above : List ℕ) → above ≡ [] → (q : ℕ) → times q above ≡ 0
none_in above none q = ap (λ (xs : List ℕ). times q xs) none

pub descends_first : (v : View) (asked : Interval) (anchor : RowImage) (link steps : ℕ) (above : List ℕ)
    → IsPrepared v anchor.row anchor → Teaches v → IsTree (mode_of anchor.words) → above ≡ [] → link ≡ (node_of anchor.words).left
    → Descends v anchor.row asked anchor link steps above
descends_first v asked anchor link steps above p teaches mode none is = record {
  has = p.0;
  teaches = teaches;
  spot = at_anchor refl mode is;
  held = λ q h. inl (p.2 q h);
  kept = λ q more. (let n = none_in above none q in absurd (omega arith));
  once = λ q. (let n = none_in above none q in omega arith);
  apart = none_in above none anchor.row;
  first = λ more. none;
  gathers = only_gathers v anchor.row anchor.words p.0 p.2;
}

-- no child on the asked side
pub arrives_last : (v : View) (tree : ℕ) (asked : Interval) (here : RowImage) (link steps : ℕ) (above : List ℕ)
    → Descends v tree asked here link steps above → link ≡ 0 → Arrives v tree asked here None above
arrives_last v tree asked here link steps above d z = record {
  link = link;
  has = d.has;
  teaches = d.teaches;
  spot = d.spot;
  child_is = z;
  held_all = λ q h. ⊎_elim (λ (is : q ≡ here.row). inl is) (λ (more : 0 < times q above). inr (inr more)) (d.held q h);
  apart = d.apart;
  child_apart = λ q no. absurd no;
  keeps = record { held = λ q more. (d.kept q more).0; once = d.once; gathers = d.gathers };
}

-- the child was refused: the row is given back, and what is left was kept
pub backs_here : (v w u : View) (tree : ℕ) (asked : Interval) (here : RowImage) (link steps : ℕ) (above : List ℕ)
    → Descends v tree asked here link steps above → OnlyMet v w → u ≡ with_row w here.row None → Backs u above
backs_here v w u tree asked here link steps above d met put = record {
  keeps = record {
    held = λ q more. (let h = (d.kept q more).0 in (h.0, put_else w u here.row put there q (other q more) ∙ (met_rows v w q met ∙ h.1)));
    once = d.once;
    gathers = put_gathers here.row w u there.0 there.1 put (met_gathers v w met d.gathers);
  };
  held_all = λ q h. ⊎_elim
      (λ (is : q ≡ here.row). absurd (put_differs w u here.row put there q h is))
      (λ (more : 0 < times q above). more)
      (d.held q (h.0, sym (met_rows v w q met) ∙ put_back w u here.row put there q h.0 h.1));
}
  where
    there : (row : Row) × Holds w here.row row
    there = let h = held_row v here.row d.has.0 in (h.0, met_rows v w here.row met ∙ h.1)

    other : (q : ℕ) → 0 < times q above → q ≢ here.row
    other q more is = let z = d.apart in let same : times q above ≡ times here.row above = ap (λ (n : ℕ). times n above) is in omega arith

-- the rows above are given back
module _ (v w : View) (tree : ℕ) (asked : Interval) (here : RowImage) (child : Option RowImage) (above : List ℕ)
    (a : Arrives v tree asked here child above) (p : Puts v w above) where
  same_child : (c : Option RowImage) (link : ℕ) → ((q : ℕ) → IsChild c q → times q above ≡ 0) → Child v asked link c → Child w asked link c
  same_child None link apart is = is
  same_child (Some c) link apart is = (is.0, has_on v w c.row c.words (p.others c.row (apart c.row refl)) is.1, is.2)

  left_held : (q : ℕ) → IsHeld w q → (q ≡ here.row) ⊎ IsChild child q
  left_held q h = dite (ℕ_discrete (times q above) 0)
      (λ z. ⊎_elim
      (λ (is : q ≡ here.row). inl is)
      (λ (o : IsChild child q ⊎ (0 < times q above)). ⊎_elim (λ (is : IsChild child q). inr is) (λ (more : 0 < times q above). absurd (omega arith)) o)
      (a.held_all q (h.0, sym (p.others q z) ∙ h.1)))
      (λ ne. absurd (Some-none h.0 (sym (p.gone q (omega arith)) ∙ h.1)))

  pub stays_after : Stays w tree asked here child
  stays_after = record {
    link = a.link;
    has = has_on v w here.row here.words (p.others here.row a.apart) a.has;
    teaches = p.teaches a.teaches;
    spot = spot_on v w tree asked here a.link (ap (λ (x : View). x.plan) p.only) (p.others here.row a.apart) a.spot;
    child_is = same_child child a.link a.child_apart a.child_is;
    held_all = left_held;
    gathers = p.gathers;
  }
