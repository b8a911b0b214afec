-- What a search may have seen of others' events meanwhile.
use Rattle.std.proofs.Common.{◌≡◌, ℕ, ◌+◌, ◌≤◌, List, [], ◌∷◌, ◌++◌, refl, sym, ap, ◌∙◌, subst, arith, append_assoc, append-nil}
use Rattle.lt_seq.specs.declared.event.Event.{Event}
use Rattle.lt_rows.specs.declared.row_plan.RowPlan.{RowPlan}
use Rattle.lt_seq.specs.declared.fault.Fault.{Fault}
use Rattle.lt_seq.specs.declared.fault.Fault.TheVariants.{Busy, OutOfMemory, HistoryFull, OutOfLocks}
use Rattle.lt_seq.specs.History.{IsLegal}
use Rattle.lt_rows.specs.Plan.{setting_of}
use Rattle.lt_rows.specs.declared.view.View.{View}
use Rattle.lt_rows.specs.declared.image.RowImage.{RowImage}
use Rattle.lt_rows.specs.Rule.{NoneOf}
use Rattle.lt_rows.specs.Handles.{Settles}
use Rattle.lt_rows.proofs.LessonLaws.{history_is_legal}
use Rattle.lt_tree.specs.States.{OnlyMet, OnlyHeld, OnlyRows, SeesOn, IsRefused}
use Rattle.lt_tree.proofs.ViewLaws.{rows_same, rows_met, rows_held}

none_of_both : (number : ℕ) (xs ys : List Event) → NoneOf number xs → NoneOf number ys → NoneOf number (xs ++ ys)
none_of_both number [] ys one two = two
none_of_both number (x ∷ xs) ys one two = (one.0, none_of_both number xs ys one.1 two)

-- the view with what may differ taken from another one
abbrev pub With : View → View → List Event → View
With v x front = record v {
  held = x.held;
  front = front;
  all = x.all;
  learned = x.learned;
  met = x.met;
  met_row = x.met_row;
  met_mark = x.met_mark;
}

-- it has seen none
pub seen_rows : (v w : View) → OnlyRows v w → SeesOn v w
seen_rows v w o = record {
  rest = [];
  view = subst (λ (x : View). x ≡ With v x (v.front ++ [])) (sym o.0)
      (ap (With v (record v { held = w.held; met = w.met; met_row = w.met_row; met_mark = w.met_mark })) (sym (append-nil v.front)));
  own = λ number low high. tt;
  alone = λ e. refl;
  legal = λ l. subst (IsLegal (setting_of v.plan)) (sym (ap (λ (x : View). x.front) o.0)) l;
  met = o.1;
}

pub seen_same : (v : View) → SeesOn v v
seen_same v = seen_rows v v (rows_same v)

pub seen_held : (v w : View) → OnlyHeld v w → SeesOn v w
seen_held v w o = seen_rows v w (rows_held v w o)

pub seen_met : (v w : View) → OnlyMet v w → SeesOn v w
seen_met v w o = seen_rows v w (rows_met v w o)

pub seen_front : (v w : View) (s : SeesOn v w) → w.front ≡ v.front ++ s.rest
seen_front v w s = ap (λ (x : View). x.front) s.view

pub seen_plan : (v w : View) → SeesOn v w → w.plan ≡ v.plan
seen_plan v w s = ap (λ (x : View). x.plan) s.view

-- and then more
pub seen_on : (v w u : View) → SeesOn v w → SeesOn w u → SeesOn v u
seen_on v w u one two = record {
  rest = one.rest ++ two.rest;
  view = two.view
      ∙ (ap (λ (x : View). With x u (x.front ++ two.rest)) one.view ∙ ap (With v u) (append_assoc v.front one.rest two.rest));
  own = λ number low high. none_of_both number one.rest two.rest (one.own number low high)
      (two.own number (subst (λ (m : ℕ). m ≤ number + 1) (sym mark) low) (omega (arith, mark, numbers, high)));
  alone = λ e. ap (λ (xs : List Event). xs ++ two.rest) (one.alone e)
      ∙ two.alone (rights ∙ (e ∙ ap (λ (k : RowPlan). k.passes) (sym plan_is)));
  legal = λ l. subst (λ (k : RowPlan). IsLegal (setting_of k) u.front) plan_is
      (two.legal (subst (λ (k : RowPlan). IsLegal (setting_of k) w.front) (sym plan_is) (one.legal l)));
  met = let a = one.met in let b = two.met in omega arith;
}
  where
    plan_is : w.plan ≡ v.plan
    plan_is = seen_plan v w one

    mark : w.mark ≡ v.mark
    mark = ap (λ (x : View). x.mark) one.view

    numbers : w.numbers ≡ v.numbers
    numbers = ap (λ (x : View). x.numbers) one.view

    rights : w.rights ≡ v.rights
    rights = ap (λ (x : View). x.rights) one.view

-- only rows differ before or behind that
pub seen_then : (v w u : View) → SeesOn v w → OnlyRows w u → SeesOn v u
seen_then v w u one two = seen_on v w u one (seen_rows w u two)

pub seen_first : (v w u : View) → OnlyRows v w → SeesOn w u → SeesOn v u
seen_first v w u one two = seen_on v w u (seen_rows v w one) two

-- a settle sees what others made
pub seen_settled : (v w : View) (plan : List RowImage) (place : ℕ) → Settles v w plan place → SeesOn v w
seen_settled v w plan place s = record {
  rest = s.0;
  view = subst (λ (x : View). x ≡ With v x (v.front ++ s.0)) (sym s.2) refl;
  own = s.1.own;
  alone = s.1.alone;
  legal = λ l. subst (IsLegal (setting_of v.plan)) (sym (ap (λ (x : View). x.front) s.2)) (history_is_legal v (v.front ++ s.0) s.1.stood);
  met = subst (λ (x : View). v.met ≤ x.met) (sym s.2) (omega arith);
}

-- a search that was refused behind that
pub refused_seen : (v u w : View) (fault : Fault) → SeesOn v u → IsRefused u w fault → IsRefused v w fault
refused_seen v u w OutOfMemory seen i = tt
refused_seen v u w (Busy row holder) seen i =
    let a = seen.met in let b = i.0 in
    let rights : u.rights ≡ v.rights = ap (λ (x : View). x.rights) seen.view in
    let passes : u.plan.passes ≡ v.plan.passes = ap (λ (x : View). x.plan.passes) seen.view in
    let less = i.3 in
    (omega arith, i.1, i.2, omega arith)
refused_seen v u w (HistoryFull place) seen i = absurd i
refused_seen v u w (OutOfLocks place used) seen i = absurd i
