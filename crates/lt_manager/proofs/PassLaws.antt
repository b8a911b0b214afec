-- What a pass has seen and done after a call.
use Rattle.std.proofs.Common.{◌≡◌, ℕ, ◌≤◌, List, ◌++◌, refl, sym, ap, ◌∙◌, subst, arith, append-nil}
use Rattle.lt_seq.specs.declared.event.Event.{Event}
use Rattle.lt_seq.specs.declared.event.Look.{Look}
use Rattle.lt_seq.specs.declared.event.Receipt.{Receipt}
use Rattle.lt_seq.specs.declared.event.JoinNote.{JoinNote}
use Rattle.lt_rows.specs.declared.row_plan.RowPlan.{RowPlan}
use Rattle.lt_seq.specs.History.{after}
use Rattle.lt_rows.specs.Plan.{setting_of}
use Rattle.lt_seq.specs.Table.{used}
use Rattle.lt_seq.specs.Yard.{IsSound, Watches, shows}
use Rattle.lt_rows.specs.declared.view.View.{View}
use Rattle.lt_rows.specs.Handles.{Shows, Looks}
use Rattle.lt_rows.specs.Views.{looked, used_after}
use Rattle.lt_rows.proofs.LessonLaws.{history_is_legal}
use Rattle.lt_manager.specs.Views.{view_with}
use Rattle.lt_manager.proofs.WatchLaws.{sound_on}

pub used_is : (k : RowPlan) (log : List Event) → used_after k log ≡ used (after (setting_of k) log)
unfolding used_after
used_is k log = refl

-- a look makes no event
looked_on : (v : View) (rest : List Event) (place : ℕ) (mine : List Receipt) (notes : List JoinNote) → v.numbers ≡ 1 → 1 ≤ v.mark → Shows v rest place
    → IsSound (setting_of v.plan) (view_with v mine notes) → Watches (setting_of v.plan) (view_with v mine notes) (view_with (looked v (v.front ++ rest)) mine notes)
looked_on v rest place mine notes one pass seen sound = record {
  goes = record {
    number = refl;
    met = omega arith;
    front = (rest, refl);
    sound = sound_on v (looked v (v.front ++ rest)) rest mine notes one pass refl refl refl seen.own (history_is_legal v (v.front ++ rest) seen.stood) sound;
  };
  rights = refl;
  mine = refl;
  notes = refl;
  alone = λ all. ap (λ (l : List Event). v.front ++ l) (seen.alone all) ∙ append-nil v.front;
}

module _ (v w : View) (look : Look) (looks : Looks v w look) where
  pub looks_on : (mine : List Receipt) (notes : List JoinNote) → v.numbers ≡ 1 → 1 ≤ v.mark
      → IsSound (setting_of v.plan) (view_with v mine notes) → Watches (setting_of v.plan) (view_with v mine notes) (view_with w mine notes)
  looks_on mine notes one pass sound =
      subst (λ (u : View). Watches (setting_of v.plan) (view_with v mine notes) (view_with u mine notes)) (sym looks.view)
      (looked_on v looks.rest look.place mine notes one pass looks.shows sound)

  pub looks_sound : (mine : List Receipt) (notes : List JoinNote) → v.numbers ≡ 1 → 1 ≤ v.mark
      → IsSound (setting_of v.plan) (view_with v mine notes) → IsSound (setting_of w.plan) (view_with w mine notes)
  looks_sound mine notes one pass sound =
      subst (λ (k : RowPlan). IsSound (setting_of k) (view_with w mine notes)) (sym (ap (λ (u : View). u.plan) looks.view)) (looks_on mine notes one pass sound).goes.sound

  -- and tells the place and the used rows there
  pub looks_show : look ≡ shows (setting_of v.plan) w.front
  looks_show =
      let is : look ≡ shows (setting_of v.plan) (v.front ++ looks.rest) = λ i. record {
        place = looks.shows.place_is i;
        used = (looks.used_is ∙ used_is v.plan (v.front ++ looks.rest)) i;
      } in
      is ∙ ap (shows (setting_of v.plan)) (sym (ap (λ (u : View). u.front) looks.view))
