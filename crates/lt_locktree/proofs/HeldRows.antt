-- Which rows a pass holds, as one more is taken or given back.
use Rattle.std.proofs.Common.{◌≡◌, ◌≢◌, ⊎_elim, ℕ, List, [], ◌∷◌, refl, sym, ap, ◌∙◌, arith}
use Rattle.std.specs.Prelude.{Option, Some, None, nat_eq}
use Rattle.lt_forest.specs.Counts.{one_if, times}
use Rattle.lt_forest.specs.Views.{IsIn, AllHeld}
use Rattle.lt_forest.proofs.SameRows.{one_here, one_equal}
use Rattle.lt_rows.specs.declared.view.View.{View}
use Rattle.lt_rows.specs.declared.view.Row.{Row}
use Rattle.lt_rows.specs.declared.image.RowImage.{RowImage}
use Rattle.lt_rows.specs.declared.take.Take.TheVariants.{Taken}
use Rattle.lt_rows.specs.Views.{Holds, IsHeld, row_at, has, words_of, with_row}
use Rattle.lt_rows.proofs.Planned.{row_held}
use Rattle.lt_tree.specs.States.{OnlyMet, Seizes, KeepsRows}
use Rattle.lt_tree.specs.Puttings.{Backs}
use Rattle.lt_tree.proofs.ViewLaws.{met_rows, met_gathers, seized_else, seized_row, seized_gathers}
use Rattle.lt_tree.proofs.PuttingLaws.{same_or_other, keeps_front, puts_none, puts_one, puts_all, backs_rest}
use Rattle.lt_locktree.specs.PlannedParts.{IsLoaded}

-- a row that isn't named is not held
pub not_held : (v : View) (rows : List ℕ) → Backs v rows → (q : ℕ) → times q rows ≡ 0 → row_at v q ≡ None
not_held v rows b q none = by_row (row_at v q) refl
  where
    by_row : (x : Option Row) → row_at v q ≡ x → row_at v q ≡ None
    by_row None e = e
    by_row (Some row) e = absurd (let more = b.held_all q (row, e) in omega arith)

pub all_in : (v : View) (rows : List ℕ) → Backs v rows → AllHeld (IsIn (has v)) rows
all_in v rows b q some = let h = b.keeps.held q some in row_held v q h.0 h.1

pub first_held : (v : View) (r : ℕ) (rows : List ℕ) → Backs v (r ∷ rows) → IsHeld v r
first_held v r rows b = b.keeps.held r (let o = one_here r in omega arith)

pub may_give_back : (v : View) (r : ℕ) (rows : List ℕ) → Backs v (r ∷ rows) → (row : Row) × Holds v r row × (row.words ≡ row.image)
may_give_back v r rows b = let h = first_held v r rows b in (h.0, h.1, b.keeps.gathers r h.0 h.1)

-- rows were met
pub backs_met : (v w : View) (rows : List ℕ) → OnlyMet v w → Backs v rows → Backs w rows
backs_met v w rows m b = record {
  keeps = record {
    held = λ q more. (let h = b.keeps.held q more in (h.0, met_rows v w q m ∙ h.1));
    once = b.keeps.once;
    gathers = met_gathers v w m b.keeps.gathers;
  };
  held_all = λ q h. b.held_all q (h.0, sym (met_rows v w q m) ∙ h.1);
}

-- a row is taken that wasn't held
module _ (r : ℕ) (v w : View) (rows : List ℕ) (s : Seizes r v w Taken) (none : times r rows ≡ 0) (b : Backs v rows) where
  pub backs_taken : Backs w (r ∷ rows)
  backs_taken = record {
    keeps = record {
      held = λ q more. ⊎_elim
          (λ (is : q ≡ r). let t = seized_row r v w s in (t.0, ap (row_at w) is ∙ t.1))
          (λ (ne : (q ≢ r) × (one_if (nat_eq r q) ≡ 0)).
          let z = ne.1 in let h = b.keeps.held q (omega arith) in (h.0, seized_else r v w s q ne.0 ∙ h.1))
          (same_or_other r q);
      once = λ q. ⊎_elim
          (λ (is : q ≡ r). let o = one_equal q r is in let z : times q rows ≡ 0 = ap (λ (n : ℕ). times n rows) is ∙ none in omega arith)
          (λ (ne : (q ≢ r) × (one_if (nat_eq r q) ≡ 0)). let z = ne.1 in let n = b.keeps.once q in omega arith)
          (same_or_other r q);
      gathers = seized_gathers r v w s b.keeps.gathers;
    };
    held_all = λ q h. ⊎_elim
        (λ (is : q ≡ r). let o = one_equal q r is in omega arith)
        (λ (ne : (q ≢ r) × (one_if (nat_eq r q) ≡ 0)).
        let more = b.held_all q (h.0, sym (seized_else r v w s q ne.0) ∙ h.1) in omega arith)
        (same_or_other r q);
  }

  pub keeps_taken : KeepsRows v w
  keeps_taken q h =
      let more = b.held_all q h in
      seized_else r v w s q (λ e. (let z : times q rows ≡ 0 = ap (λ (n : ℕ). times n rows) e ∙ none in absurd (omega arith)))

-- a row is given back
pub backs_put : (r : ℕ) (v w : View) (rows : List ℕ) → w ≡ with_row v r None → Backs v (r ∷ rows) → Backs w rows
backs_put r v w rows e b =
    let one = puts_none v (r ∷ []) (keeps_front v (r ∷ []) rows b.keeps) in
    backs_rest v w (r ∷ []) rows b (puts_all v w (r ∷ []) [] (puts_one v v (r ∷ []) (r ∷ []) one [] r refl w e) refl)

-- what was loaded of a row that stays held
pub loaded_on : (v w : View) (r : ℕ) (image : RowImage) → KeepsRows v w → IsHeld v r → IsLoaded v r image → IsLoaded w r image
loaded_on v w r image keeps held l = record { row = l.row; words = l.words ∙ ap words_of (sym (keeps r held)); long = l.long }
