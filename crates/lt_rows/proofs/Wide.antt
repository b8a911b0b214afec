-- A view has as many entries after a commit or a settle as before, and holds no other rows.
use Rattle.std.proofs.Common.{◌≡◌, ℕ, zero, suc, List, [], ◌∷◌, length, set, get_or, refl, sym, ap, ◌∙◌, length-set}
use Rattle.std.specs.Prelude.{Option, Some, None}
use Rattle.lt_rows.specs.declared.view.SeenGap.{SeenGap}
use Rattle.lt_rows.specs.declared.view.Row.{Row}
use Rattle.lt_rows.specs.declared.image.RowImage.{RowImage}
use Rattle.lt_rows.specs.declared.view.View.{View}
use Rattle.lt_rows.specs.Views.{row_at, planned, planned_row, set_gaps}
use Rattle.lt_rows.proofs.Frames.{Some-none}

planned_wide : (xs : List (Option Row)) (ps : List RowImage) → length (planned xs ps) ≡ length xs
planned_wide xs [] = refl
planned_wide xs (p ∷ ps) =
    planned_wide (set xs p.row (planned_row (get_or xs p.row None) p.words)) ps ∙ length-set xs p.row (planned_row (get_or xs p.row None) p.words)

gaps_wide : (xs : List (Option Row)) (gs : List (Option SeenGap)) → length (set_gaps xs gs) ≡ length xs
gaps_wide [] gs = refl
gaps_wide (None ∷ xs) [] = ap suc (gaps_wide xs [])
gaps_wide (None ∷ xs) (g ∷ gs) = ap suc (gaps_wide xs gs)
gaps_wide (Some row ∷ xs) [] = ap suc (gaps_wide xs [])
gaps_wide (Some row ∷ xs) (g ∷ gs) = ap suc (gaps_wide xs gs)

pub still_wide : (v : View) (plan : List RowImage) (gs : List (Option SeenGap)) → length (planned (set_gaps v.held gs) plan) ≡ length v.held
still_wide v plan gs = planned_wide (set_gaps v.held gs) plan ∙ gaps_wide v.held gs

planned_none : (x : Option Row) (ws : List ℕ) → x ≡ None → planned_row x ws ≡ None
planned_none x ws e = ap (λ (y : Option Row). planned_row y ws) e

one_none : (xs : List (Option Row)) (i : ℕ) (ws : List ℕ) (r : ℕ) → get_or xs r None ≡ None → get_or (set xs i (planned_row (get_or xs i None) ws)) r None ≡ None
one_none [] i ws r e = refl
one_none (x ∷ xs) zero ws zero e = planned_none x ws e
one_none (x ∷ xs) zero ws (suc r) e = e
one_none (x ∷ xs) (suc i) ws zero e = e
one_none (x ∷ xs) (suc i) ws (suc r) e = one_none xs i ws r e

plan_none : (xs : List (Option Row)) (ps : List RowImage) (r : ℕ) → get_or xs r None ≡ None → get_or (planned xs ps) r None ≡ None
plan_none xs [] r e = e
plan_none xs (p ∷ ps) r e = plan_none (set xs p.row (planned_row (get_or xs p.row None) p.words)) ps r (one_none xs p.row p.words r e)

gaps_none : (xs : List (Option Row)) (gs : List (Option SeenGap)) (r : ℕ) → get_or xs r None ≡ None → get_or (set_gaps xs gs) r None ≡ None
gaps_none [] gs r e = refl
gaps_none (None ∷ xs) [] zero e = refl
gaps_none (None ∷ xs) [] (suc r) e = gaps_none xs [] r e
gaps_none (None ∷ xs) (g ∷ gs) zero e = refl
gaps_none (None ∷ xs) (g ∷ gs) (suc r) e = gaps_none xs gs r e
gaps_none (Some row ∷ xs) [] zero e = absurd (Some-none row (sym e))
gaps_none (Some row ∷ xs) [] (suc r) e = gaps_none xs [] r e
gaps_none (Some row ∷ xs) (g ∷ gs) zero e = absurd (Some-none row (sym e))
gaps_none (Some row ∷ xs) (g ∷ gs) (suc r) e = gaps_none xs gs r e

-- a row that isn't held is not held after a commit or a settle
pub still_none : (v : View) (plan : List RowImage) (gs : List (Option SeenGap)) (r : ℕ) → row_at v r ≡ None → get_or (planned (set_gaps v.held gs) plan) r None ≡ None
still_none v plan gs r e = plan_none (set_gaps v.held gs) plan r (gaps_none v.held gs r e)
