-- A pass that takes a note in.
use Rattle.std.proofs.Common.{◌≡◌, ℕ, ◌+◌, ◌-◌, ◌≤◌, Bool, true, false, List, ◌++◌, length, nat_lt, sym, ap, ◌∙◌, subst, inl, inr}
use Rattle.lt_seq.specs.declared.event.Event.{Event}
use Rattle.lt_seq.specs.declared.event.Receipt.{Receipt}
use Rattle.lt_seq.specs.declared.event.JoinNote.{JoinNote}
use Rattle.lt_rows.specs.declared.row_plan.RowPlan.{RowPlan}
use Rattle.lt_seq.specs.History.{IsLegal, IsFront}
use Rattle.lt_rows.specs.Plan.{setting_of}
use Rattle.lt_seq.specs.Yard.{NoteView, IsSound, IsLonger, Learns}
use Rattle.lt_rows.specs.declared.view.View.{View}
use Rattle.lt_rows.specs.Views.{learner, longer_if}
use Rattle.lt_rows.specs.Rule.{IsOfOthers}
use Rattle.lt_manager.specs.Views.{view_with}
use Rattle.lt_manager.proofs.WatchLaws.{sound_on}

module _ (v w u : View) (learned : u ≡ learner v w) (told : IsFront w.front u.front)
    (more : (rest : List Event) × (u.front ≡ v.front ++ rest) × IsOfOthers v rest) where
  longer_by : (test : Bool) → u.front ≡ longer_if test v.front w.front → IsLonger v.front w.front u.front
  longer_by true is = inr (is, (more.0, sym is ∙ more.1))
  longer_by false is = inl (is, subst (IsFront w.front) is told)

  legal_by : (test : Bool) → u.front ≡ longer_if test v.front w.front → IsLegal (setting_of v.plan) v.front → IsLegal (setting_of v.plan) w.front
      → IsLegal (setting_of v.plan) u.front
  legal_by true is own other = subst (IsLegal (setting_of v.plan)) (sym is) other
  legal_by false is own other = subst (IsLegal (setting_of v.plan)) (sym is) own

  front_is : u.front ≡ longer_if (nat_lt (length v.front) (length w.front)) v.front w.front
  front_is = ap (λ (x : View). x.front) learned

  module _ (mine : List Receipt) (notes : List JoinNote) (one : v.numbers ≡ 1) (pass : 1 ≤ v.mark)
      (sound : IsSound (setting_of v.plan) (view_with v mine notes)) (legal : IsLegal (setting_of v.plan) w.front) where
    -- it stays sound
    pub learned_sound : IsSound (setting_of u.plan) (view_with u mine notes)
    learned_sound =
        sound_on v u more.0 mine notes one pass (ap (λ (x : View). x.plan) learned) (ap (λ (x : View). x.mark) learned) more.1 more.2
        (subst (IsLegal (setting_of v.plan)) more.1 (legal_by (nat_lt (length v.front) (length w.front)) front_is sound.legal legal)) sound

    -- and adds the rights, and takes the longer front
    pub learns : (note : NoteView) → note.rights ≡ w.rights → note.front ≡ w.front
        → Learns (setting_of v.plan) (view_with v mine notes) note (view_with u mine notes)
    learns note rights front = record {
      same = λ i. record {
        number = (learned i).mark - 1;
        rights = (ap (λ (x : View). x.rights) learned ∙ ap (λ (n : ℕ). v.rights + n) (sym rights)) i;
        met = (learned i).met;
        met_row = (learned i).met_row;
        met_holder = (learned i).met_mark - 1;
        front = u.front;
        mine = mine;
        notes = notes;
      };
      longer = subst (λ (es : List Event). IsLonger v.front es u.front) (sym front)
          (longer_by (nat_lt (length v.front) (length w.front)) front_is);
      sound = subst (λ (k : RowPlan). IsSound (setting_of k) (view_with u mine notes)) (ap (λ (x : View). x.plan) learned) learned_sound;
    }
