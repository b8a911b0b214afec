-- What a deed comes to in the words of a yard.
use Rattle.std.proofs.Common.{◌≡◌, ℕ, ◌+◌, ◌-◌, ◌≤◌, List, [], ◌∷◌, ◌++◌, length, fold, refl, sym, ap, ◌∙◌, subst, arith, append_assoc, append-nil}
use Rattle.std.proofs.lemmas.Bool.Decides.{nat_tests}
use Rattle.lt_seq.specs.declared.event.Event.{Event}
use Rattle.lt_seq.specs.declared.event.Receipt.{Receipt}
use Rattle.lt_seq.specs.Table.{Setting, TreeState, opening, step}
use Rattle.lt_seq.specs.History.{after, calls_from, IsNext, IsLegal, IsLegalFrom}
use Rattle.lt_rows.specs.Plan.{setting_of}
use Rattle.lt_seq.proofs.HistoryLaws.{calls-append, calls_more}
use Rattle.lt_rows.specs.declared.view.View.{View}
use Rattle.lt_rows.specs.Handles.{Commits}
use Rattle.lt_rows.specs.Rule.{NoneOf}
use Rattle.lt_tree.specs.States.{SeesOn}
use Rattle.lt_tree.proofs.SeenLaws.{seen_front, seen_then}
use Rattle.lt_locktree.specs.Calls.{event_of}
use Rattle.lt_locktree.specs.Deeds.{asked_event}
use Rattle.lt_locktree.specs.LawsOfCalls.{MakesOneCall, MakesNext, DeedIsMade, DeedIsRefused}

-- no call of a pass is among what others made
pub none_calls : (place number : ℕ) (events : List Event) → NoneOf number events → calls_from place number events ≡ []
none_calls place number [] others = refl
none_calls place number (e ∷ es) others =
    let rest : calls_from (place + 1) number es ≡ [] = none_calls (place + 1) number es others.1 in
    let other = others.0 in
    grind (arith, nat_tests, rest, other)

-- nor among two runs of others' events
none_of_both : (number : ℕ) (xs ys : List Event) → NoneOf number xs → NoneOf number ys → NoneOf number (xs ++ ys)
none_of_both number [] ys one two = two
none_of_both number (x ∷ xs) ys one two = (one.0, none_of_both number xs ys one.1 two)

-- the last event of a legal history may come next
pub legal_last : (setting : Setting) (events : List Event) (e : Event) → IsLegal setting (events ++ e ∷ []) → IsNext setting (after setting events) e
legal_last setting events e legal = go (opening setting) events legal
  where
    go : (trees : List TreeState) (events : List Event) → IsLegalFrom setting trees (events ++ e ∷ []) → IsNext setting (fold (step setting) trees events) e
    go trees [] legal = legal.0
    go trees (x ∷ es) legal = go (step setting trees x) es legal.1

pub one_call : MakesOneCall
one_call v w txn deed place made one pass =
    let number : ℕ = v.mark - 1 in
    let first : ℕ = v.plan.first in
    let rest : calls_from (first + length v.front) number made.rest ≡ [] = none_calls (first + length v.front) number made.rest (made.own number (omega (arith, pass)) (omega (arith, one, pass))) in
    ap (calls_from first number) made.front
    ∙ (calls_more first number (v.front ++ made.rest) (event_of v txn deed) refl
    ∙ ap (λ (l : List Receipt). l ++ record { place = first + length (v.front ++ made.rest); event = event_of v txn deed } ∷ [])
    (calls-append first number v.front made.rest ∙ (ap (λ (l : List Receipt). calls_from first number v.front ++ l) rest ∙ append-nil (calls_from first number v.front)))
    ∙ ap (λ (n : ℕ). calls_from first number v.front ++ record { place = n; event = event_of v txn deed } ∷ []) (sym made.place_is))

pub next_event : MakesNext
next_event v w txn deed place made =
    legal_last (setting_of v.plan) (v.front ++ made.rest) (event_of v txn deed) (subst (IsLegal (setting_of v.plan)) made.front made.legal)

pub deed_is_made : DeedIsMade
deed_is_made v w a deed place (t, search, (u, plan, only, (x, committed, back))) number below =
    let seen : SeesOn v u = seen_then v t u search only in
    let e : Event = asked_event a deed in
    let c = subst (λ (y : View). Commits y x plan e place) seen.view committed in
    let pass : a.pass ≡ v.mark - 1 = omega (arith, number) in
    let event : e ≡ event_of v a.txn deed = λ j. record { pass = pass j; txn = a.txn; deed = deed } in
    let log : (v.front ++ seen.rest) ++ c.0 ≡ v.front ++ (seen.rest ++ c.0) = append_assoc v.front seen.rest c.0 in
    let front : w.front ≡ ((v.front ++ seen.rest) ++ c.0) ++ e ∷ [] = ap (λ (y : View). y.front) back ∙ ap (λ (y : View). y.front) c.2 in
    let met : w.met ≡ u.met = ap (λ (y : View). y.met) back ∙ ap (λ (y : View). y.met) c.2 in
    let more : v.met ≤ u.met = seen.met in
    record {
      rest = seen.rest ++ c.0;
      alone = λ all. ap (λ (es : List Event). es ++ c.0) (seen.alone all) ∙ c.1.alone all;
      own = λ number low high. none_of_both number seen.rest c.0 (seen.own number low high) (c.1.own number low high);
      place_is = c.1.place_is ∙ ap (λ (es : List Event). v.plan.first + length es) log;
      front = front ∙ (λ j. log j ++ event j ∷ []);
      legal = subst (IsLegal (setting_of v.plan)) (sym front) (c.3 below);
      same = (ap (λ (y : View). y.plan) back ∙ ap (λ (y : View). y.plan) c.2, ap (λ (y : View). y.mark) back ∙ ap (λ (y : View). y.mark) c.2, ap (λ (y : View). y.numbers) back ∙ ap (λ (y : View). y.numbers) c.2, ap (λ (y : View). y.rights) back ∙ ap (λ (y : View). y.rights) c.2);
      met = omega (arith, met, more);
    }

pub deed_is_refused : DeedIsRefused
deed_is_refused v w fault seen refused = record {
  rest = seen.rest;
  alone = seen.alone;
  own = seen.own;
  front = seen_front v w seen;
  legal = seen.legal;
  same = (ap (λ (y : View). y.plan) seen.view, ap (λ (y : View). y.mark) seen.view, ap (λ (y : View). y.numbers) seen.view, ap (λ (y : View). y.rights) seen.view);
  met = seen.met;
  cause = refused;
}
