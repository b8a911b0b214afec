-- What a pass's view has of a row after a step.
use Rattle.std.proofs.Common.{◌≡◌, ◌≢◌, ℕ, zero, suc, ◌<◌, List, [], ◌∷◌, drop, length, set, get_or, refl, sym, ap, ◌∙◌, subst, arith, get_or-set_same, get_or-set_other, eq-eqb}
use Rattle.std.specs.Prelude.{Option, Some, None, nat_eq}
use mathlib.Core.Logic.{dite}
use native.Mathlib.Decide.{ℕ_discrete}
use Rattle.lt_forest.specs.Counts.{one_if, times}
use Rattle.lt_rows.specs.declared.image.RowImage.{RowImage}
use Rattle.lt_rows.specs.declared.view.SeenGap.{SeenGap}
use Rattle.lt_rows.specs.declared.view.Row.{Row}
use Rattle.lt_rows.specs.declared.view.View.{View}
use Rattle.lt_rows.specs.Views.{Holds, row_at, with_row, written, images, image_of, gap_of, planned, planned_rows, planned_contents, set_gaps}
use Rattle.lt_rows.specs.Gaps.{gap_for, gap_from, with_gap, regap, clear, new_gaps}
use Rattle.lt_rows.specs.Teaching.{Teaches}
use Rattle.lt_rows.specs.LawsOfSteps.{TakenRowIsHeld, WrittenRowIsStored, PutRowIsGone, CommittedRowHasImage, SettledRowHasImage, UnplannedRowKeepsGap, GatheringIsKept}
use Rattle.lt_rows.proofs.Frames.{Some-is, Some-none}
use Rattle.lt_rows.proofs.Loops.{held_inside}
use Rattle.lt_rows.proofs.Planned.{planned_same}
use Rattle.lt_rows.proofs.Views.{planned_at}
use Rattle.lt_rows.proofs.Regaps.{planned_gap, gap_map}

row_here : (v w : View) (r : ℕ) (x : Option Row) → r < length v.held → w ≡ with_row v r x → row_at w r ≡ x
row_here v w r x inside e = ap (λ (u : View). row_at u r) e ∙ get_or-set_same v.held r x None inside

row_there : (v w : View) (r : ℕ) (x : Option Row) → w ≡ with_row v r x → (q : ℕ) → q ≢ r → row_at w q ≡ row_at v q
row_there v w r x e q ne = ap (λ (u : View). row_at u q) e ∙ get_or-set_other v.held r q x None ne

pub taken_row_is_held : TakenRowIsHeld
taken_row_is_held r v w t = (row_here v w r _ t.2 t.3, row_there v w r _ t.3)

pub written_row_is_stored : WrittenRowIsStored
written_row_is_stored r v w row words h e = (
  row_here v w r (written (row_at v r) words) (held_inside v r row h) e ∙ ap (λ x. written x words) h,
  row_there v w r (written (row_at v r) words) e,
)

-- a row that is held behind a put was held before
put_back : (r : ℕ) (v w : View) (row : Row) → Holds v r row → w ≡ with_row v r None → (q : ℕ) (y : Row) → Holds w q y → Holds v q y
put_back r v w row h e q y there = dite (ℕ_discrete q r)
    (λ same. absurd (Some-none y (sym (row_here v w r None (held_inside v r row h) e) ∙ subst (λ (n : ℕ). row_at w n ≡ Some y) same there)))
    (λ ne. sym (row_there v w r None e q ne) ∙ there)

pub put_row_is_gone : PutRowIsGone
put_row_is_gone r v w row h e = (
  row_here v w r None (held_inside v r row h) e,
  row_there v w r None e,
  λ t. subst Teaches (sym e) (
    t.0,
    t.1,
    record {
      forest = t.2.forest;
      contents = t.2.contents;
      shape = t.2.shape;
      agrees = λ q y there. t.2.agrees q y (back q y there);
      gaps = λ q y g there is. t.2.gaps q y g (back q y there) is;
      licence = t.2.licence;
    },
  ),
)
  where
    back : (q : ℕ) (y : Row) → Holds (with_row v r None) q y → Holds v q y
    back q y there = put_back r v w row h e q y (ap (λ (u : View). row_at u q) e ∙ there)

-- a row with its gap
same_row : (a : Row) (words image : List ℕ) (gap : Option SeenGap) → a.words ≡ words → a.image ≡ image → a.gap ≡ gap → a ≡ record { words = words; image = image; gap = gap }
same_row a words image gap w i g = λ j. record { words = w j; image = i j; gap = g j }

-- the gaps that are set
set_gap : (xs : List (Option Row)) (gs : List (Option SeenGap)) (r : ℕ) (row : Row) → get_or xs r None ≡ Some row → get_or (set_gaps xs gs) r None ≡ Some record row { gap = get_or gs r None }
set_gap [] gs r row e = absurd (Some-none row e)
set_gap (None ∷ xs) [] zero row e = absurd (Some-none row e)
set_gap (None ∷ xs) (g ∷ gs) zero row e = absurd (Some-none row e)
set_gap (Some y ∷ xs) [] zero row e = ap (λ (z : Row). Some record z { gap = None }) (Some-is y row e)
set_gap (Some y ∷ xs) (g ∷ gs) zero row e = ap (λ (z : Row). Some record z { gap = g }) (Some-is y row e)
set_gap (None ∷ xs) [] (suc r) row e = set_gap xs [] r row e
set_gap (None ∷ xs) (g ∷ gs) (suc r) row e = set_gap xs gs r row e
set_gap (Some y ∷ xs) [] (suc r) row e = set_gap xs [] r row e
set_gap (Some y ∷ xs) (g ∷ gs) (suc r) row e = set_gap xs gs r row e

-- a row after a plan, and its gap
abbrev image_in : List (Option Row) → ℕ → List ℕ
image_in held q = image_of (get_or held q None)

planned_is : (v : View) (gs : List (Option SeenGap)) (plan : List RowImage) (r : ℕ) (row : Row) → Holds v r row
    → get_or (planned (set_gaps v.held gs) plan) r None ≡ Some record { words = row.words; image = planned_contents (images v) plan r; gap = get_or gs r None }
planned_is v gs plan r row h =
    let g = set_gap v.held gs r row h in
    let n = planned_at (set_gaps v.held gs) plan r (record row { gap = get_or gs r None }) g in
    let old = planned_gap (set_gaps v.held gs) plan r n.0 n.1 in
    let gap_is : n.0.gap ≡ get_or gs r None = old.2 ∙ ap (λ (y : Row). y.gap) (Some-is old.0 (record row { gap = get_or gs r None }) (sym old.1 ∙ g)) in
    let image_is : n.0.image ≡ planned_contents (images v) plan r = n.3 ∙ planned_same (image_in (set_gaps v.held gs)) (images v) plan r (ap image_of g ∙ ap image_of (sym h)) in
    n.1 ∙ ap Some (same_row n.0 row.words (planned_contents (images v) plan r) (get_or gs r None) n.2 image_is gap_is)

pub committed_row_has_image : CommittedRowHasImage
committed_row_has_image v plan front r row h = planned_is v [] plan r row h

pub settled_row_has_image : SettledRowHasImage
settled_row_has_image v plan front r row h = planned_is v (new_gaps v plan) plan r row h

-- rows of which no gap is taken anew
differs : (r : ℕ) (p : RowImage) (ps : List RowImage) → times r (planned_rows (p ∷ ps)) ≡ 0 → r ≢ p.row
differs r p ps none e = let o : one_if (nat_eq p.row r) ≡ 1 = ap one_if (eq-eqb p.row r (sym e)) in omega arith

pub regap_else : (trees : ℕ) (xs : List (Option Row)) (ps : List RowImage) (r : ℕ) → times r (planned_rows ps) ≡ 0 → get_or (regap trees xs ps) r None ≡ get_or xs r None
regap_else trees xs [] r none = refl
regap_else trees xs (p ∷ ps) r none =
    regap_else trees (set xs p.row (with_gap (get_or xs p.row None) (gap_from trees 0 xs p.row))) ps r (omega arith)
    ∙ get_or-set_other xs p.row r (with_gap (get_or xs p.row None) (gap_from trees 0 xs p.row)) None (differs r p ps none)

clear_else : (xs : List (Option Row)) (ps : List RowImage) (r : ℕ) → times r (planned_rows ps) ≡ 0 → get_or (clear xs ps) r None ≡ get_or xs r None
clear_else xs [] r none = refl
clear_else xs (p ∷ ps) r none =
    clear_else (set xs p.row (with_gap (get_or xs p.row None) None)) ps r (omega arith)
    ∙ get_or-set_other xs p.row r (with_gap (get_or xs p.row None) None) None (differs r p ps none)

pub unplanned_row_keeps_gap : UnplannedRowKeepsGap
unfolding new_gaps
unplanned_row_keeps_gap v plan r row h none =
    let n = planned_at v.held plan r row h in
    let old = planned_gap v.held plan r n.0 n.1 in
    let gap_is : n.0.gap ≡ row.gap = old.2 ∙ ap (λ (y : Row). y.gap) (Some-is old.0 row (sym old.1 ∙ h)) in
    gap_map (regap v.plan.trees (clear (planned v.held plan) (drop 1 plan)) (drop 1 plan)) r
    ∙ (ap gap_of (regap_else v.plan.trees (clear (planned v.held plan) (drop 1 plan)) (drop 1 plan) r none
    ∙ (clear_else (planned v.held plan) (drop 1 plan) r none ∙ n.1)) ∙ gap_is)

pub gathering_is_kept : GatheringIsKept
gathering_is_kept r v w gathers = (
  λ t q y there. dite (ℕ_discrete q r)
      (λ same.
      let new : Row = record { words = t.0; image = t.0; gap = gap_for v r } in
      let is : new ≡ y = Some-is new y (sym (row_here v w r (Some new) t.2 t.3) ∙ subst (λ (n : ℕ). row_at w n ≡ Some y) same there) in
      subst (λ (z : Row). z.words ≡ z.image) is refl)
      (λ ne. gathers q y (sym (row_there v w r _ t.3 q ne) ∙ there)),
  λ row h e q y there. gathers q y (put_back r v w row h e q y there),
)
