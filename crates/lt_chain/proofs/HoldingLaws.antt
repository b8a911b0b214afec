-- Which rows a pass holds, from step to step.
use Rattle.std.proofs.Common.{◌≡◌, ◌≢◌, ⊎_elim, ℕ, zero, suc, ◌<◌, List, [], ◌∷◌, refl, sym, ap, ◌∙◌, subst, arith, ne_eqb}
use Rattle.std.specs.Prelude.{Option, Some, None, nat_eq}
use Rattle.lt_forest.specs.Counts.{one_if, times}
use Rattle.lt_forest.proofs.SameRows.{one_here, one_equal}
use Rattle.lt_rows.specs.declared.view.View.{View}
use Rattle.lt_rows.specs.declared.view.Row.{Row}
use Rattle.lt_rows.specs.declared.take.Take.TheVariants.{Taken}
use Rattle.lt_rows.specs.Views.{Holds, IsHeld, row_at, image_of, words_of, with_row}
use Rattle.lt_rows.specs.Teaching.{Teaches}
use Rattle.lt_rows.proofs.Frames.{Some-none}
use Rattle.lt_rows.proofs.Planned.{row_held}
use Rattle.lt_rows.proofs.StepLaws.{put_row_is_gone}
use Rattle.lt_tree.specs.States.{HoldsNone, OnlyMet, Seizes, HasWords, KeepsRows}
use Rattle.lt_tree.specs.Puttings.{Keeps, Backs, Puts}
use Rattle.lt_tree.proofs.ViewLaws.{met_rows, met_gathers, seized_else, seized_row, seized_gathers, put_gathers}
use Rattle.lt_tree.proofs.PuttingLaws.{same_or_other}

pub one_else : (q r : ℕ) → q ≢ r → one_if (nat_eq r q) ≡ 0
one_else q r ne = ap one_if (ne_eqb r q (λ e. ne (sym e)))

-- a row that isn't named is not held
pub backs_out : (v : View) (rows : List ℕ) → Backs v rows → (q : ℕ) → times q rows ≡ 0 → row_at v q ≡ None
backs_out v rows b q none = by_row (row_at v q) refl none
  where
    by_row : (x : Option Row) → row_at v q ≡ x → times q rows ≡ 0 → row_at v q ≡ None
    by_row None e z = e
    by_row (Some row) e z = absurd (let more = b.held_all q (row, e) in omega arith)

pub backs_none_left : (v : View) → Backs v [] → HoldsNone v
backs_none_left v b q = backs_out v [] b q refl

pub backs_held : (v : View) (rows : List ℕ) → Backs v rows → (q : ℕ) → 0 < times q rows → IsHeld v q
backs_held v rows b q more = b.keeps.held q more

pub backs_may_put : (v : View) (rows : List ℕ) → Backs v rows → (q : ℕ) → 0 < times q rows → (row : Row) × Holds v q row × (row.words ≡ row.image)
backs_may_put v rows b q more =
    let h = b.keeps.held q more in
    (h.0, h.1, b.keeps.gathers q h.0 h.1)

-- what was loaded of a row is what counts
pub backs_has : (v : View) (rows : List ℕ) → Backs v rows → (q : ℕ) → 0 < times q rows → (ws : List ℕ) → ws ≡ words_of (row_at v q) → HasWords v q ws
backs_has v rows b q more ws e =
    let h = b.keeps.held q more in
    (row_held v q h.0 h.1, sym e, ap image_of h.1 ∙ (sym (b.keeps.gathers q h.0 h.1) ∙ (sym (ap words_of h.1) ∙ sym e)))

pub backs_met : (v w : View) (rows : List ℕ) → OnlyMet v w → Backs v rows → Backs w rows
backs_met v w rows m b = record {
  keeps = record {
    held = λ q more. (let h = b.keeps.held q more in (h.0, met_rows v w q m ∙ h.1));
    once = b.keeps.once;
    gathers = met_gathers v w m b.keeps.gathers;
  };
  held_all = λ q h. b.held_all q (h.0, sym (met_rows v w q m) ∙ h.1);
}

pub backs_same : (v w : View) (rows : List ℕ) → w ≡ v → Backs v rows → Backs w rows
backs_same v w rows e b = subst (λ (u : View). Backs u rows) (sym e) b

pub backs_taken : (r : ℕ) (v w : View) (rows : List ℕ) → Seizes r v w Taken → times r rows ≡ 0 → Backs v rows → Backs w (r ∷ rows)
backs_taken r v w rows s none b = record {
  keeps = record {
    held = λ q more. ⊎_elim
        (λ (is : q ≡ r). let t = seized_row r v w s in (t.0, ap (row_at w) is ∙ t.1))
        (λ (ne : (q ≢ r) × (one_if (nat_eq r q) ≡ 0)).
        let z = ne.1 in
        let h = b.keeps.held q (omega arith) in
        (h.0, seized_else r v w s q ne.0 ∙ h.1))
        (same_or_other r q);
    once = λ q. ⊎_elim
        (λ (is : q ≡ r). let o = one_equal q r is in let z : times q rows ≡ 0 = ap (λ (n : ℕ). times n rows) is ∙ none in omega arith)
        (λ (ne : (q ≢ r) × (one_if (nat_eq r q) ≡ 0)). let z = ne.1 in let n = b.keeps.once q in omega arith)
        (same_or_other r q);
    gathers = seized_gathers r v w s b.keeps.gathers;
  };
  held_all = λ q h. ⊎_elim
      (λ (is : q ≡ r). let o = one_equal q r is in omega arith)
      (λ (ne : (q ≢ r) × (one_if (nat_eq r q) ≡ 0)).
      let more = b.held_all q (h.0, sym (seized_else r v w s q ne.0) ∙ h.1) in omega arith)
      (same_or_other r q);
}

pub backs_put : (r : ℕ) (v w : View) (rows : List ℕ) → w ≡ with_row v r None → Backs v (r ∷ rows) → Backs w rows
backs_put r v w rows e b = record {
  keeps = record {
    held = λ q more. ⊎_elim
        (λ (is : q ≡ r). absurd (let o = one_equal q r is in let n = b.keeps.once q in omega arith))
        (λ (ne : (q ≢ r) × (one_if (nat_eq r q) ≡ 0)).
        let h = b.keeps.held q (omega arith) in
        (h.0, gone.1 q ne.0 ∙ h.1))
        (same_or_other r q);
    once = λ q. (let n = b.keeps.once q in omega arith);
    gathers = put_gathers r v w here.0 here.1 e b.keeps.gathers;
  };
  held_all = λ q h. ⊎_elim
      (λ (is : q ≡ r). absurd (Some-none h.0 (sym (ap (row_at w) is ∙ gone.0) ∙ h.1)))
      (λ (ne : (q ≢ r) × (one_if (nat_eq r q) ≡ 0)).
      let z = ne.1 in
      let more = b.held_all q (h.0, sym (gone.1 q ne.0) ∙ h.1) in omega arith)
      (same_or_other r q);
}
  where
    here : IsHeld v r
    here = b.keeps.held r (let o = one_here r in omega arith)

    gone : (row_at w r ≡ None) × ((q : ℕ) → q ≢ r → row_at w q ≡ row_at v q) × (Teaches v → Teaches w)
    gone = put_row_is_gone r v w here.0 here.1 e

pub keeps_taken : (r : ℕ) (v w : View) (rows : List ℕ) → Seizes r v w Taken → times r rows ≡ 0 → Backs v rows → KeepsRows v w
keeps_taken r v w rows s none b q h =
    seized_else r v w s q (λ e. (let z : times q rows ≡ 0 = ap (λ (n : ℕ). times n rows) e ∙ none in let more = b.held_all q h in absurd (omega arith)))

-- the order of the rows says nothing
pub backs_order : (v : View) (xs ys : List ℕ) → ((q : ℕ) → times q xs ≡ times q ys) → Backs v xs → Backs v ys
backs_order v xs ys same b = record {
  keeps = record {
    held = λ q more. (let s = same q in b.keeps.held q (omega arith));
    once = λ q. (let s = same q in let n = b.keeps.once q in omega arith);
    gathers = b.keeps.gathers;
  };
  held_all = λ q h. (let s = same q in let more = b.held_all q h in omega arith);
}

-- rows of which some are given back
module _ (v w : View) (r : ℕ) (rows : List ℕ) (b : Backs v (r ∷ rows)) where
  pub keeps_rest : Keeps v rows
  keeps_rest = record {
    held = λ q more. b.keeps.held q (omega arith);
    once = λ q. (let n = b.keeps.once q in omega arith);
    gathers = b.keeps.gathers;
  }

  not_named : times r rows ≡ 0
  not_named = let n = b.keeps.once r in let o = one_here r in omega arith

  pub backs_one : Puts v w rows → Backs w (r ∷ [])
  backs_one p = record {
    keeps = record {
      held = λ q more. ⊎_elim
          (λ (is : q ≡ r).
          let h = b.keeps.held r (let o = one_here r in omega arith) in
          (h.0, ap (row_at w) is ∙ (p.others r not_named ∙ h.1)))
          (λ (ne : (q ≢ r) × (one_if (nat_eq r q) ≡ 0)). absurd (let z = ne.1 in omega arith))
          (same_or_other r q);
      once = λ q. ⊎_elim
          (λ (is : q ≡ r). let o = one_equal q r is in omega arith)
          (λ (ne : (q ≢ r) × (one_if (nat_eq r q) ≡ 0)). let z = ne.1 in omega arith)
          (same_or_other r q);
      gathers = p.gathers;
    };
    held_all = λ q h. ⊎_elim
        (λ (is : q ≡ r). let o = one_equal q r is in omega arith)
        (λ (ne : (q ≢ r) × (one_if (nat_eq r q) ≡ 0)). absurd (still q h ne.1 (times q rows) refl))
        (same_or_other r q);
  }
    where
      still : (q : ℕ) → IsHeld w q → one_if (nat_eq r q) ≡ 0 → (n : ℕ) → times q rows ≡ n → ⊥
      still q h z zero e = let more = b.held_all q (h.0, sym (p.others q e) ∙ h.1) in omega arith
      still q h z (suc n) e = Some-none h.0 (sym (p.gone q (omega arith)) ∙ h.1)
