-- All transactions of a trace, behind a round.
use Rattle.std.proofs.Common.{◌≡◌, ◌≢◌, ℕ, zero, suc, ◌+◌, ◌<◌, List, [], ◌∷◌, ◌++◌, Bool, true, false, ◌==◌, if◌then◌else◌, IsTrue, length, get_or, refl, sym, ap, subst, ◌∙◌, arith, append-nil}
use Rattle.std.specs.List.{AllByRecursion}
use Rattle.std.proofs.lemmas.Bool.{false≢true}
use Rattle.std.proofs.lemmas.Bool.Decides.{nat_tests}
use Rattle.lt_ranges.specs.Numbers.{is_in}
use Rattle.lt_seq.specs.declared.event.Event.{Event}
use Rattle.lt_seq.specs.declared.event.Receipt.{Receipt}
use Rattle.lt_seq.specs.Table.{Setting}
use Rattle.lt_seq.specs.History.{calls_from}
use Rattle.lt_seq.specs.Questions.{events_of}
use Rattle.lt_seq.specs.Yard.{PassView, HasAll, IsSound, place_after}
use Rattle.lt_seq.proofs.HistoryLaws.{calls-append, front_itself}
use Rattle.lt_trace.specs.declared.line.Line.{Line}
use Rattle.lt_trace.specs.Grammar.{txns_of}
use Rattle.lt_runner.specs.TurnView.{Seat}
use Rattle.lt_runner.specs.Played.{Search, Fits, Stands, AllStand}
use Rattle.lt_runner.specs.PlaysOn.{PlaysOn}
use Rattle.lt_runner.proofs.ChoiceLaws.{on_false}
use Rattle.lt_runner.proofs.CaughtLaws.{all_append}
use Rattle.lt_crew.specs.Crew.{numbers_in, AreApart, PlaysAll, Worked, IsRound, only}
use Rattle.lt_crew.specs.Rounds.{IsMoved, played, stayed, AreMoved, AreOfTrace}
use Rattle.lt_crew.proofs.OwnLaws.{EachByItsOwn, is_in_numbers}
use Rattle.lt_crew.proofs.PlaysAllLaws.{plays_none, plays_more}
use Rattle.lt_crew.proofs.RoundLaws.{each_of_round, round_stands, round_waits, worked_none, worked_by, added_are}

-- the number of a transaction stays
moved_number : (setting : Setting) (found : List Search) (before history : List Event) (were are : ℕ → List Seat) (was is : Seat) →
    IsRound setting found before history were are → IsMoved setting were are was is → is.turn.txn ≡ was.turn.txn
moved_number setting found before history were are was is round (played pass i there inside here now) =
    ap (λ (s : Seat). s.turn.txn) now ∙ (round.worked pass there).txns i was inside ∙ ap (λ (s : Seat). s.turn.txn) (sym here)
moved_number setting found before history were are was is round (stayed same none) = ap (λ (s : Seat). s.turn.txn) same

moved_numbers : (setting : Setting) (found : List Search) (before history : List Event) (were are : ℕ → List Seat) (old new : List Seat) →
    IsRound setting found before history were are → AreMoved setting were are old new → numbers_in new ≡ numbers_in old
moved_numbers setting found before history were are [] [] round moved = refl
moved_numbers setting found before history were are [] (is ∷ later) round moved = absurd moved
moved_numbers setting found before history were are (was ∷ old) [] round moved = absurd moved
moved_numbers setting found before history were are (was ∷ old) (is ∷ new) round moved =
    let here = moved_number setting found before history were are was is round moved.0 in
    let rest = moved_numbers setting found before history were are old new round moved.1 in
    λ j. here j ∷ rest j

moved_stands : (setting : Setting) (searches found : List Search) (lines : List Line) (before history : List Event) (were are : ℕ → List Seat)
    (was is : Seat) → IsRound setting found before history were are → IsMoved setting were are was is →
    ((pass txn : ℕ) → IsTrue (is_in txn (numbers_in (were pass))) → Fits searches found (place_after setting before) txn) →
    Stands true setting searches lines before was → Stands true setting searches lines history is
moved_stands setting searches found lines before history were are was is round (played pass i there inside here now) fits stands =
    subst (Stands true setting searches lines history) (sym now)
    (round_stands setting searches found lines before history were are round pass i was there inside
    (fits pass (get_or (were pass) i was).turn.txn (is_in_numbers (were pass) i was inside))
    (subst (Stands true setting searches lines before) here stands))
moved_stands setting searches found lines before history were are was is round (stayed same none) fits stands =
    subst (Stands true setting searches lines history) (sym same)
    (round_waits setting searches found lines before history were are was round none stands)

moved_stand : (setting : Setting) (searches found : List Search) (lines : List Line) (before history : List Event) (were are : ℕ → List Seat)
    (old new : List Seat) → IsRound setting found before history were are → AreMoved setting were are old new →
    ((pass txn : ℕ) → IsTrue (is_in txn (numbers_in (were pass))) → Fits searches found (place_after setting before) txn) →
    AllByRecursion (Stands true setting searches lines before) old → AllByRecursion (Stands true setting searches lines history) new
moved_stand setting searches found lines before history were are [] [] round moved fits all = tt
moved_stand setting searches found lines before history were are [] (is ∷ later) round moved fits all = absurd moved
moved_stand setting searches found lines before history were are (was ∷ old) [] round moved fits all = absurd moved
moved_stand setting searches found lines before history were are (was ∷ old) (is ∷ new) round moved fits all =
    (moved_stands setting searches found lines before history were are was is round moved.0 fits all.0, moved_stand setting searches found lines before history were are old new round moved.1 fits all.1)

own_more : (txns : List ℕ) (were : ℕ → List Seat) (more : List Event) →
    ((pass txn : ℕ) → IsTrue (is_in txn (numbers_in (were pass))) → IsTrue (is_in txn txns)) →
    EachByItsOwn (λ pass. numbers_in (were pass)) more → AllByRecursion (λ e. IsTrue (is_in e.txn txns)) more
own_more txns were [] there each = tt
own_more txns were (e ∷ es) there each = (there e.pass e.txn each.0, own_more txns were es there each.1)

-- all transactions stand behind a round
pub all_stand : (setting : Setting) (searches found : List Search) (lines : List Line) (before history : List Event) (were are : ℕ → List Seat)
    (old new : List Seat) → IsRound setting found before history were are → AreMoved setting were are old new →
    ((pass txn : ℕ) → IsTrue (is_in txn (numbers_in (were pass))) → Fits searches found (place_after setting before) txn) →
    AreOfTrace lines were → AllStand true setting searches lines before old → AllStand true setting searches lines history new
all_stand setting searches found lines before history were are old new round moved fits there all = record {
  legal = round.legal;
  numbers = moved_numbers setting found before history were are old new round moved ∙ all.numbers;
  stand = moved_stand setting searches found lines before history were are old new round moved fits all.stand;
  own =
      let (more, is) = round.front in
      subst (AllByRecursion (λ (e : Event). IsTrue (is_in e.txn (txns_of lines)))) (sym is)
      (all_append (λ (e : Event). IsTrue (is_in e.txn (txns_of lines))) before more all.own
      (own_more (txns_of lines) were more there
      (each_of_round setting found before more were are (subst (λ (es : List Event). IsRound setting found before es were are) is round))));
}

-- A turn of the caller, whose pass has all the rights, is a round in which it alone plays one transaction.

-- the receipts of a pass are of that pass
calls_own : (place pass : ℕ) (events : List Event) → AllByRecursion (λ r. r.event.pass ≡ pass) (calls_from place pass events)
calls_own place pass [] = tt
calls_own place pass (e ∷ es) = by_test (e.pass == pass) refl (calls_own (place + 1) pass es)
  where
    by_test : (b : Bool) → (e.pass == pass) ≡ b → AllByRecursion (λ r. r.event.pass ≡ pass) (calls_from (place + 1) pass es) →
        AllByRecursion (λ r. r.event.pass ≡ pass)
        (if b then record { place = place; event = e } ∷ calls_from (place + 1) pass es else calls_from (place + 1) pass es)
    by_test true h rest = (grind (arith, nat_tests), rest)
    by_test false h rest = rest

-- so another has none among these events
calls_none : (place pass other : ℕ) (receipts : List Receipt) → pass ≢ other → AllByRecursion (λ r. r.event.pass ≡ pass) receipts →
    calls_from place other (events_of receipts) ≡ []
calls_none place pass other [] differs all = refl
calls_none place pass other (r ∷ rs) differs all =
    on_false (r.event.pass == other) (record { place = place; event = r.event } ∷ calls_from (place + 1) other (events_of rs))
    (calls_from (place + 1) other (events_of rs)) (by_test (r.event.pass == other) refl)
    ∙ calls_none (place + 1) pass other rs differs all.1
  where
    by_test : (b : Bool) → (r.event.pass == other) ≡ b → (r.event.pass == other) ≡ false
    by_test true h = absurd (differs (let same : r.event.pass ≡ other = grind (arith, nat_tests) in sym all.0 ∙ same))
    by_test false h = h

pub caller_round : (setting : Setting) (found : List Search) (old new : PassView) (was is : Seat) → old.number ≡ 0 → IsSound setting old →
    HasAll setting old → PlaysOn setting found old new was is → IsRound setting found old.front new.front (only was) (only is)
caller_round setting found old new was is zeroth sound all plays = record {
  legal = plays.goes.sound.legal;
  front = (events_of plays.made, alone);
  apart = apart;
  worked = worked;
}
  where
    alone : new.front ≡ old.front ++ events_of plays.made
    alone = plays.alone all

    calls : calls_from setting.plan.first 0 new.front ≡ calls_from setting.plan.first 0 old.front ++ plays.made
    calls = ap (λ n. calls_from setting.plan.first n new.front) (sym (plays.goes.number ∙ zeroth)) ∙ sym plays.goes.sound.mine ∙ plays.mine
        ∙ ap (λ rs. rs ++ plays.made) (sound.mine ∙ ap (λ n. calls_from setting.plan.first n old.front) zeroth)

    made_own : AllByRecursion (λ r. r.event.pass ≡ 0) plays.made
    made_own =
        let is_calls = added_are setting.plan.first 0 old.front (events_of plays.made) plays.made
        (ap (calls_from setting.plan.first 0) (sym alone) ∙ calls) in
        subst (AllByRecursion (λ (r : Receipt). r.event.pass ≡ 0)) (sym is_calls)
        (calls_own (setting.plan.first + length old.front) 0 (events_of plays.made))

    apart : AreApart (λ pass. numbers_in (only was pass))
    apart txn zero zero p q = refl
    apart txn zero (suc b) p q = absurd (false≢true q)
    apart txn (suc a) zero p q = absurd (false≢true p)
    apart txn (suc a) (suc b) p q = absurd (false≢true p)

    here : PlaysAll setting found old new (was ∷ []) (is ∷ [])
    here = plays_more setting found old old new (was ∷ []) (was ∷ []) 0 was is (λ j k d in_j in_k same. omega arith)
        (plays_none setting found old (was ∷ []) sound) (omega arith) refl plays

    worked : (pass : ℕ) → pass < setting.plan.passes → Worked setting found old.front new.front pass (only was pass) (only is pass)
    worked zero inside =
        subst (λ (n : ℕ). Worked setting found old.front new.front n (was ∷ []) (is ∷ [])) zeroth
        (worked_by setting found old.front new.front old new new (was ∷ []) (is ∷ []) here refl sound
        (front_itself new.front) refl plays.goes.number refl plays.goes.sound)
    worked (suc p) inside = worked_none setting found old.front new.front (suc p)
        (ap (calls_from setting.plan.first (suc p)) alone ∙ calls-append setting.plan.first (suc p) old.front (events_of plays.made)
        ∙ ap (λ rs. calls_from setting.plan.first (suc p) old.front ++ rs)
        (calls_none (setting.plan.first + length old.front) 0 (suc p) plays.made (omega arith) made_own)
        ∙ append-nil (calls_from setting.plan.first (suc p) old.front))
