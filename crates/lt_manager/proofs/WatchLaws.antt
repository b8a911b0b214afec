-- A pass that has seen more.
use Rattle.std.proofs.Common.{◌≡◌, ℕ, ◌+◌, ◌-◌, ◌≤◌, List, ◌++◌, [], length, sym, ap, ◌∙◌, subst, arith, append-nil}
use Rattle.lt_seq.specs.declared.event.Event.{Event}
use Rattle.lt_seq.specs.declared.event.Receipt.{Receipt}
use Rattle.lt_seq.specs.declared.event.JoinNote.{JoinNote}
use Rattle.lt_seq.specs.History.{IsLegal, calls_from}
use Rattle.lt_rows.specs.Plan.{setting_of}
use Rattle.lt_seq.specs.Yard.{IsSound}
use Rattle.lt_seq.proofs.HistoryLaws.{calls-append}
use Rattle.lt_rows.specs.declared.view.View.{View}
use Rattle.lt_rows.specs.Rule.{IsOfOthers}
use Rattle.lt_locktree.proofs.CallLaws.{none_calls}
use Rattle.lt_manager.specs.Views.{view_with}

-- where what was new others made, and the longer history is legal, the pass is sound with it
pub sound_on : (v w : View) (rest : List Event) (mine : List Receipt) (notes : List JoinNote) → v.numbers ≡ 1 → 1 ≤ v.mark → w.plan ≡ v.plan → w.mark ≡ v.mark → w.front ≡ v.front ++ rest
    → IsOfOthers v rest → IsLegal (setting_of v.plan) (v.front ++ rest) → IsSound (setting_of v.plan) (view_with v mine notes) → IsSound (setting_of w.plan) (view_with w mine notes)
sound_on v w rest mine notes one pass plan mark front others legal sound =
    let number : ℕ = v.mark - 1 in
    let none : calls_from (v.plan.first + length v.front) number rest ≡ [] = none_calls (v.plan.first + length v.front) number rest (others number (omega (arith, pass)) (omega (arith, one, pass))) in
    record {
      legal = subst (λ p. IsLegal (setting_of p) w.front) (sym plan) (subst (IsLegal (setting_of v.plan)) (sym front) legal);
      mine = sound.mine ∙ (sym (calls-append v.plan.first number v.front rest
          ∙ (ap (λ (l : List Receipt). calls_from v.plan.first number v.front ++ l) none ∙ append-nil (calls_from v.plan.first number v.front)))
          ∙ λ i. calls_from (sym plan i).first (sym mark i - 1) (sym front i));
    }
