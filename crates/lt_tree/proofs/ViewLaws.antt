-- What a pass's view has of a row, from step to step.
use Rattle.std.proofs.Common.{◌≡◌, ◌≢◌, ℕ, ◌<◌, List, set, get_or, refl, sym, ap, ◌∙◌, subst, arith, get_or-set_same, get_or-set_other}
use Rattle.std.specs.Prelude.{Option, Some, None}
use mathlib.Core.Logic.{dite}
use native.Mathlib.Decide.{ℕ_discrete}
use Rattle.lt_rows.specs.declared.row_plan.RowPlan.{RowPlan}
use Rattle.lt_rows.specs.declared.view.View.{View}
use Rattle.lt_rows.specs.declared.view.Row.{Row}
use Rattle.lt_rows.specs.declared.image.RowImage.{RowImage}
use Rattle.lt_rows.specs.declared.take.Take.TheVariants.{Taken, HeldBy}
use Rattle.lt_rows.specs.Views.{Holds, row_at, rows_of, words_of, image_of, with_row}
use Rattle.lt_rows.proofs.Frames.{Some-is, Some-none}
use Rattle.lt_rows.proofs.Planned.{row_held, held_row}
use Rattle.lt_rows.proofs.Loops.{held_inside}
use Rattle.lt_rows.proofs.Views.{took, took_else}
use Rattle.lt_rows.proofs.StepLaws.{gathering_is_kept}
use Rattle.lt_rows.specs.Handles.{IsGathering}
use Rattle.lt_seq.specs.declared.fault.Fault.TheVariants.{OutOfMemory, Busy, HistoryFull, OutOfLocks}
use Rattle.lt_seq.specs.declared.fault.Fault.{Fault}
use Rattle.lt_tree.specs.States.{HoldsNone, HoldsOnly, OnlyMet, OnlyHeld, OnlyRows, KeepsRows, Seizes, HasWords, IsRefused, IsPrepared}

pub tree_row : (k : RowPlan) (t : ℕ) → t < k.trees → t < rows_of k
unfolding rows_of
tree_row k t lt = omega arith

pub met_rows : (v u : View) (q : ℕ) → OnlyMet v u → row_at u q ≡ row_at v q
met_rows v u q m = ap (λ (w : View). row_at w q) m.0

module _ (r : ℕ) (v w : View) (s : Seizes r v w Taken) where
  pub seized_else : (q : ℕ) → q ≢ r → row_at w q ≡ row_at v q
  seized_else q ne = took_else r s.0 w s.2 q ne ∙ met_rows v s.0 q s.1

  pub seized_row : (row : Row) × Holds w r row × (row.words ≡ s.2.0) × (row.image ≡ s.2.0)
  seized_row = took r s.0 w s.2

  pub seized_has : HasWords w r s.2.0
  seized_has =
      let t = seized_row in
      (row_held w r t.0 t.1, ap words_of t.1 ∙ t.2, ap image_of t.1 ∙ t.3)

  pub seized_only : HoldsNone v → HoldsOnly w r
  seized_only none q h = dite (ℕ_discrete q r) (λ e. e) (λ ne. absurd (Some-none h.0 (sym (none q) ∙ (sym (seized_else q ne) ∙ h.1))))

pub same_has : (v w : View) (r : ℕ) (ws : List ℕ) → w ≡ v → HasWords v r ws → HasWords w r ws
same_has v w r ws e h = subst (λ (u : View). HasWords u r ws) (sym e) h

pub same_only : (v w : View) (r : ℕ) → w ≡ v → HoldsOnly v r → HoldsOnly w r
same_only v w r e h = subst (λ (u : View). HoldsOnly u r) (sym e) h

-- what the words were loaded as
pub has_loaded : (v : View) (r : ℕ) (ws loaded : List ℕ) → loaded ≡ words_of (row_at v r) → HasWords v r ws → HasWords v r loaded
has_loaded v r ws loaded e h = let same : ws ≡ loaded = sym (e ∙ h.1) in subst (HasWords v r) same h

pub may_put : (v : View) (r : ℕ) (ws : List ℕ) → HasWords v r ws → (row : Row) × Holds v r row × (row.words ≡ row.image)
may_put v r ws h =
    let row = held_row v r h.0 in
    (row.0, row.1, ap words_of (sym row.1) ∙ (h.1 ∙ (sym h.2 ∙ ap image_of row.1)))

pub put_only : (v w : View) (r : ℕ) → HoldsOnly v r → (row : Row) → Holds v r row → w ≡ with_row v r None → HoldsNone w
put_only v w r only row held e q = dite (ℕ_discrete q r)
    (λ is. ap (λ (u : View). row_at u q) e ∙ (ap (λ (n : ℕ). get_or (set v.held r None) n None) is ∙ get_or-set_same v.held r None None (held_inside v r row held)))
    (λ ne. ap (λ (u : View). row_at u q) e ∙ (get_or-set_other v.held r q None None ne ∙ go (row_at v q) refl ne))
  where
    go : (x : Option Row) → row_at v q ≡ x → q ≢ r → row_at v q ≡ None
    go None is ne = is
    go (Some y) is ne = absurd (ne (only q (y, is)))

-- only rows differ

pub held_set : (v w : View) (hs : List (Option Row)) → w ≡ record v { held = hs } → OnlyHeld v w
held_set v w hs e = subst (OnlyHeld v) (sym e) refl

pub held_put : (v w : View) (r : ℕ) → w ≡ with_row v r None → OnlyHeld v w
held_put v w r e = held_set v w _ e

pub held_on : (v w u : View) → OnlyHeld v w → OnlyHeld w u → OnlyHeld v u
held_on v w u one two = two ∙ ap (λ (x : View). record x { held = u.held }) one

-- only rows and meetings differ

pub rows_same : (v : View) → OnlyRows v v
rows_same v = (refl, omega arith)

pub rows_set : (v w : View) (hs : List (Option Row)) → w ≡ record v { held = hs } → OnlyRows v w
rows_set v w hs e = subst (OnlyRows v) (sym e) (refl, omega arith)

pub rows_met : (v w : View) → OnlyMet v w → OnlyRows v w
rows_met v w m = subst (OnlyRows v) (sym m.0) (refl, m.1)

pub rows_on : (v w u : View) → OnlyRows v w → OnlyRows w u → OnlyRows v u
rows_on v w u one two =
    let a = one.1 in let b = two.1 in
    (two.0 ∙ ap (λ (x : View). record x { held = u.held; met = u.met; met_row = u.met_row; met_mark = u.met_mark }) one.0, omega arith)

pub rows_seized : (r : ℕ) (v w : View) → Seizes r v w Taken → OnlyRows v w
rows_seized r v w s = rows_on v s.0 w (rows_met v s.0 s.1) (rows_set s.0 w _ s.2.3)

pub rows_put : (v w : View) (r : ℕ) → w ≡ with_row v r None → OnlyRows v w
rows_put v w r e = rows_set v w _ e

pub rows_held : (v w : View) → OnlyHeld v w → OnlyRows v w
rows_held v w e = rows_set v w w.held e

pub rows_plan : (v w : View) → OnlyRows v w → w.plan ≡ v.plan
rows_plan v w one = ap (λ (x : View). x.plan) one.0

-- all words count still

pub met_gathers : (v w : View) → OnlyMet v w → IsGathering v → IsGathering w
met_gathers v w m g q row h = g q row (sym (met_rows v w q m) ∙ h)

pub seized_gathers : (r : ℕ) (v w : View) → Seizes r v w Taken → IsGathering v → IsGathering w
seized_gathers r v w s g = (gathering_is_kept r s.0 w (met_gathers v s.0 s.1 g)).0 s.2

pub put_gathers : (r : ℕ) (v w : View) (row : Row) → Holds v r row → w ≡ with_row v r None → IsGathering v → IsGathering w
put_gathers r v w row h e g = (gathering_is_kept r v w g).1 row h e

pub same_gathers : (v w : View) → w ≡ v → IsGathering v → IsGathering w
same_gathers v w e g = subst IsGathering (sym e) g

pub only_gathers : (v : View) (r : ℕ) (ws : List ℕ) → HasWords v r ws → HoldsOnly v r → IsGathering v
only_gathers v r ws h only q row there =
    let m = may_put v r ws h in
    let is = only q (row, there) in
    let same : m.0 ≡ row = Some-is m.0 row (sym m.1 ∙ subst (λ (n : ℕ). row_at v n ≡ Some row) is there) in
    subst (λ (x : Row). x.words ≡ x.image) same m.2

-- a row was met
pub refused_busy : (v u w : View) (row holder : ℕ) → OnlyRows v u → Seizes row u w (HeldBy holder) → IsRefused v w (Busy row holder)
refused_busy v u w row holder only s =
    let a = only.1 in let b = s.1 in
    let rights : u.rights ≡ v.rights = ap (λ (x : View). x.rights) only.0 in
    let passes : u.plan.passes ≡ v.plan.passes = ap (λ (x : View). x.plan.passes) only.0 in
    let less = s.4 in
    (omega arith, s.2, s.3, omega arith)

-- and rows are given back behind that
pub refused_held : (v w u : View) (fault : Fault) → IsRefused v w fault → OnlyHeld w u → IsRefused v u fault
refused_held v w u OutOfMemory i only = tt
refused_held v w u (Busy row holder) i only = subst (λ (x : View). IsRefused v x (Busy row holder)) (sym only) i
refused_held v w u (HistoryFull place) i only = absurd i
refused_held v w u (OutOfLocks place used) i only = absurd i

-- behind a search that was not refused
pub refused_on : (v u w : View) (fault : Fault) → OnlyRows v u → IsRefused u w fault → IsRefused v w fault
refused_on v u w OutOfMemory only i = tt
refused_on v u w (Busy row holder) only i =
    let a = only.1 in let b = i.0 in
    let rights : u.rights ≡ v.rights = ap (λ (x : View). x.rights) only.0 in
    let passes : u.plan.passes ≡ v.plan.passes = ap (λ (x : View). x.plan.passes) only.0 in
    let less = i.3 in
    (omega arith, i.1, i.2, omega arith)
refused_on v u w (HistoryFull place) only i = absurd i
refused_on v u w (OutOfLocks place used) only i = absurd i

-- the anchor is loaded once more
pub prepared_loaded : (v w : View) (tree : ℕ) (image loaded : RowImage) → IsPrepared v tree image → w ≡ v → loaded.row ≡ tree
    → loaded.words ≡ words_of (row_at v tree) → IsPrepared w loaded.row loaded
prepared_loaded v w tree image loaded p same row words = (
  subst (λ (n : ℕ). HasWords w n loaded.words) (sym row)
      (same_has v w tree loaded.words same (has_loaded v tree image.words loaded.words words p.0)),
  refl,
  subst (HoldsOnly w) (sym row) (same_only v w tree same p.2),
)

pub prepared_again : (v w : View) (tree : ℕ) (image loaded : RowImage) → IsPrepared v tree image → w ≡ v → loaded.row ≡ tree
    → loaded.words ≡ words_of (row_at v tree) → IsPrepared w tree loaded
prepared_again v w tree image loaded p same row words = (
  same_has v w tree loaded.words same (has_loaded v tree image.words loaded.words words p.0),
  row,
  same_only v w tree same p.2,
)

-- held rows stay

pub keeps_same : (v : View) → KeepsRows v v
keeps_same v q h = refl

pub keeps_met : (v w : View) → OnlyMet v w → KeepsRows v w
keeps_met v w m q h = met_rows v w q m

pub keeps_on : (v w u : View) → KeepsRows v w → KeepsRows w u → KeepsRows v u
keeps_on v w u one two q h = two q (h.0, one q h ∙ h.1) ∙ one q h
