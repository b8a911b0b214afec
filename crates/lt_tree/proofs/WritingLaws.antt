-- A plan's images count, and then they are stored.
use Rattle.std.proofs.Common.{◌≡◌, ◌≢◌, ℕ, List, [], ◌∷◌, length, length-set, get_or, refl, sym, ap, ◌∙◌, subst}
use Rattle.std.specs.Prelude.{Option, Some, None}
use mathlib.Core.Logic.{dite}
use native.Mathlib.Decide.{ℕ_discrete}
use Rattle.lt_seq.specs.declared.event.Event.{Event}
use Rattle.lt_rows.specs.declared.view.View.{View}
use Rattle.lt_rows.specs.declared.view.Row.{Row}
use Rattle.lt_rows.specs.declared.view.SeenGap.{SeenGap}
use Rattle.lt_rows.specs.declared.image.RowImage.{RowImage}
use Rattle.lt_rows.specs.Views.{Holds, IsHeld, row_at, has, is_some, words_of, images, image_of, gap_of, with_row, written, AllHeld}
use Rattle.lt_rows.specs.Views.{planned, planned_contents, changed, committed, settled, set_gaps}
use Rattle.lt_rows.specs.Gaps.{new_gaps}
use Rattle.lt_rows.specs.Handles.{IsGathering}
use Rattle.lt_rows.proofs.Frames.{changed_at, changed_else}
use Rattle.lt_rows.proofs.Planned.{held_row, row_held, planned_same}
use Rattle.lt_rows.proofs.StepLaws.{written_row_is_stored, committed_row_has_image, settled_row_has_image}
use Rattle.lt_rows.proofs.Wide.{still_none}
use Rattle.lt_tree.specs.Puttings.{Backs}
use Rattle.lt_tree.specs.Writings.{words_in, WritesSome, Writes}
use Rattle.lt_tree.proofs.ViewLaws.{held_on, held_set}

pub writes_none : (v : View) (plan : List RowImage) → AllHeld v.held plan → WritesSome v v plan plan
writes_none v plan all = record {
  only = refl;
  long = refl;
  same = λ q. refl;
  images_stay = λ q. refl;
  gaps_stay = λ q. refl;
  words = λ q h. refl;
  held = all;
}

pub held_same : (v w : View) → ((q : ℕ) → has w q ≡ has v q) → (q : ℕ) → IsHeld v q → IsHeld w q
held_same v w same q h = held_row w q (same q ∙ row_held v q h.0 h.1)

pub all_same : (v w : View) → ((q : ℕ) → has w q ≡ has v q) → (plan : List RowImage) → AllHeld v.held plan → AllHeld w.held plan
all_same v w same [] all = tt
all_same v w same (p ∷ ps) all = (held_same v w same p.row all.0, all_same v w same ps all.1)

-- one image more is stored
module _ (v w : View) (plan : List RowImage) (p : RowImage) (ps : List RowImage) (s : WritesSome v w plan (p ∷ ps)) where
  pub first_held : IsHeld w p.row
  first_held = s.held.0

  module _ (u : View) (e : u ≡ with_row w p.row (written (row_at w p.row) p.words)) where
    stored : Holds u p.row record (s.held.0.0) { words = p.words } × ((q : ℕ) → q ≢ p.row → row_at u q ≡ row_at w q)
    stored = written_row_is_stored p.row w u s.held.0.0 p.words s.held.0.1 e

    -- what is so of the stored row and of the others
    by_row : (P : Option Row → Option Row → Type 0) → ((x : Option Row) → P x x) → P (Some record (s.held.0.0) { words = p.words }) (Some s.held.0.0)
        → (q : ℕ) → P (row_at u q) (row_at w q)
    by_row P other here q = dite (ℕ_discrete q p.row)
        (λ is. subst (λ (n : ℕ). P (row_at u n) (row_at w n)) (sym is)
        (subst (λ (x : Option Row). P x (row_at w p.row)) (sym stored.0)
        (subst (P (Some record (s.held.0.0) { words = p.words })) (sym s.held.0.1) here)))
        (λ ne. subst (λ (x : Option Row). P x (row_at w q)) (sym (stored.1 q ne)) (other (row_at w q)))

    same_has : (q : ℕ) → has u q ≡ has w q
    same_has q = by_row (λ x y. is_some x ≡ is_some y) (λ x. refl) refl q

    same_image : (q : ℕ) → images u q ≡ images w q
    same_image q = by_row (λ x y. image_of x ≡ image_of y) (λ x. refl) refl q

    same_gap : (q : ℕ) → gap_of (row_at u q) ≡ gap_of (row_at w q)
    same_gap q = by_row (λ x y. gap_of x ≡ gap_of y) (λ x. refl) refl q

    words_now : (q : ℕ) → words_in u q ≡ changed (words_in w) p.row p.words q
    words_now q = dite (ℕ_discrete q p.row)
        (λ is. ap (λ (n : ℕ). words_in u n) is ∙ (ap words_of stored.0 ∙ sym (changed_at (words_in w) p.row p.words q is)))
        (λ ne. ap words_of (stored.1 q ne) ∙ sym (changed_else (words_in w) p.row p.words q ne))

    pub writes_one : WritesSome v u plan ps
    writes_one = record {
      only = held_on v w u s.only (held_set w u _ e);
      long = ap (λ (x : View). length x.held) e ∙ (length-set w.held p.row (written (row_at w p.row) p.words) ∙ s.long);
      same = λ q. same_has q ∙ s.same q;
      images_stay = λ q. same_image q ∙ s.images_stay q;
      gaps_stay = λ q. same_gap q ∙ s.gaps_stay q;
      words = λ q h. planned_same (words_in u) (changed (words_in w) p.row p.words) ps q (words_now q) ∙ s.words q h;
      held = all_same w u same_has ps s.held.1;
    }

pub writes_all : (v w : View) (plan left : List RowImage) → left ≡ [] → WritesSome v w plan left → Writes v w plan
writes_all v w plan left none s = record {
  only = s.only;
  long = s.long;
  same = s.same;
  images_stay = s.images_stay;
  gaps_stay = s.gaps_stay;
  words = λ q h. ap (λ (l : List RowImage). planned_contents (words_in w) l q) (sym none) ∙ s.words q h;
}

-- the images of a plan count from a commit or a settle on
pub record IsPlanned (v u : View) (plan : List RowImage) : Type 0 where
  pub same : (q : ℕ) → has u q ≡ has v q
  pub images_are : (q : ℕ) → IsHeld v q → images u q ≡ planned_contents (images v) plan q
  pub words_stay : (q : ℕ) → IsHeld v q → words_in u q ≡ words_in v q

planned_by : (v u : View) (plan : List RowImage) (gs : List (Option SeenGap))
    → ((q : ℕ) → row_at u q ≡ get_or (planned (set_gaps v.held gs) plan) q None)
    → ((q : ℕ) (row : Row) → Holds v q row → (new : Row) × Holds u q new × (new.words ≡ row.words) × (new.image ≡ planned_contents (images v) plan q))
    → IsPlanned v u plan
planned_by v u plan gs none each = record {
  same = λ q. by_entry q (row_at v q) refl;
  images_are = λ q h. (let n = each q h.0 h.1 in ap image_of n.1 ∙ n.3);
  words_stay = λ q h. (let n = each q h.0 h.1 in ap words_of n.1 ∙ (n.2 ∙ ap words_of (sym h.1)));
}
  where
    by_entry : (q : ℕ) (x : Option Row) → row_at v q ≡ x → has u q ≡ has v q
    by_entry q None is = ap is_some (none q ∙ still_none v plan gs q is) ∙ ap is_some (sym is)
    by_entry q (Some row) is = let n = each q row is in ap is_some n.1 ∙ ap is_some (sym is)

pub commit_plans : (v u : View) (plan : List RowImage) (front : List Event) → u ≡ committed v plan front → IsPlanned v u plan
commit_plans v u plan front e =
    planned_by v u plan [] (λ q. ap (λ (x : View). row_at x q) e)
    (λ q row h. (_, ap (λ (x : View). row_at x q) e ∙ committed_row_has_image v plan front q row h, refl, refl))

pub settle_plans : (v u : View) (plan : List RowImage) (front : List Event) → u ≡ settled v plan (new_gaps v plan) front → IsPlanned v u plan
settle_plans v u plan front e =
    planned_by v u plan (new_gaps v plan) (λ q. ap (λ (x : View). row_at x q) e)
    (λ q row h. (_, ap (λ (x : View). row_at x q) e ∙ settled_row_has_image v plan front q row h, refl, refl))

-- then all words count again, and the same rows are held
module _ (v u w : View) (plan : List RowImage) (p : IsPlanned v u plan) (s : Writes u w plan) where
  back : (q : ℕ) → has v q ≡ has w q
  back q = sym (s.same q ∙ p.same q)

  pub gathers_then : IsGathering v → IsGathering w
  gathers_then g q row h =
      let was = held_same w v back q (row, h) in
      let planned_row = held_same v u p.same q was in
      let counts : words_in v q ≡ images v q = ap words_of was.1 ∙ (g q was.0 was.1 ∙ ap image_of (sym was.1)) in
      ap words_of (sym h)
      ∙ (s.words q planned_row
      ∙ (planned_same (words_in u) (images v) plan q (p.words_stay q was ∙ counts)
      ∙ (sym (p.images_are q was) ∙ (sym (s.images_stay q) ∙ ap image_of h))))

  pub backs_then : (rows : List ℕ) → Backs v rows → Backs w rows
  backs_then rows b = record {
    keeps = record {
      held = λ q more. held_same v w (λ n. sym (back n)) q (b.keeps.held q more);
      once = b.keeps.once;
      gathers = gathers_then b.keeps.gathers;
    };
    held_all = λ q h. b.held_all q (held_same w v back q h);
  }
