-- A join with its note, in the words of a call.
use Rattle.std.proofs.Common.{◌≡◌, ◌+◌, ◌≤◌, Result, Ok, Err, IfOk, IfErr, List, [], ◌∷◌, ◌++◌, refl, sym, ap, ◌∙◌}
use Rattle.lt_seq.specs.declared.event.Event.{Event}
use Rattle.lt_seq.specs.declared.event.Deed.TheVariants.{Join}
use Rattle.lt_seq.specs.declared.event.JoinNote.{JoinNote}
use Rattle.lt_seq.specs.declared.fault.Fault.{Fault}
use Rattle.lt_rows.specs.Plan.{setting_of}
use Rattle.lt_seq.specs.Yard.{note_after}
use Rattle.lt_rows.specs.declared.view.View.{View}
use Rattle.lt_tree.specs.States.{OnlyRows, IsRefused}
use Rattle.lt_tree.proofs.SeenLaws.{seen_rows, seen_same}
use Rattle.lt_locktree.specs.declared.asking.Asking.{Asking}
use Rattle.lt_locktree.specs.Calls.{Joins, Leaves}
use Rattle.lt_locktree.specs.Deeds.{MakesJoin}
use Rattle.lt_locktree.specs.LawsOfCalls.{JoinIsMade}
use Rattle.lt_locktree.proofs.CallLaws.{deed_is_made, deed_is_refused}

-- all events but the last
but_last : List Event → List Event
but_last [] = []
but_last (e ∷ []) = []
but_last (e ∷ f ∷ es) = e ∷ but_last (f ∷ es)

before_last : (es : List Event) (e : Event) → but_last (es ++ e ∷ []) ≡ es
unfolding but_last
before_last [] e = refl
before_last (f ∷ []) e = refl
before_last (f ∷ g ∷ es) e = ap (λ (l : List Event). f ∷ l) (before_last (g ∷ es) e)

same_before : (es fs : List Event) (e f : Event) → es ++ e ∷ [] ≡ fs ++ f ∷ [] → es ≡ fs
same_before es fs e f same = sym (before_last es e) ∙ (ap but_last same ∙ before_last fs f)

pub join_is_made : JoinIsMade
join_is_made v w a note (deed, before, front, is) number below =
    let made = deed_is_made v w a (Join a.tree note.before note.after) note.place (v, seen_same v, deed) number below in
    record {
      made = made;
      note_is = is ∙ ap (λ (log : List Event). note_after (setting_of v.plan) log a.tree)
          (same_before before (v.front ++ made.rest) _ _ (sym front ∙ made.front));
    }

-- what a call answers

pub joins_if_ok : (r : Result JoinNote Fault) (v w : View) (a : Asking) → a.pass + 1 ≡ v.mark → v.mark ≤ v.plan.passes
    → IfOk r (MakesJoin v w a) → IfOk r (Joins v w a.txn a.tree)
joins_if_ok (Ok note) v w a number below made = join_is_made v w a note made number below
joins_if_ok (Err fault) v w a number below made = tt

pub leaves_if_err : (r : Result JoinNote Fault) (v w : View) → IfErr r (λ _. OnlyRows v w) → IfErr r (IsRefused v w) → IfErr r (Leaves v w)
leaves_if_err (Ok note) v w only refused = tt
leaves_if_err (Err fault) v w only refused = deed_is_refused v w fault (seen_rows v w only) refused
