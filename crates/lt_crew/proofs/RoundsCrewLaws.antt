-- A round of the workers leaves a crew as it may be between two moves.
use Rattle.std.proofs.Common.{◌≡◌, ℕ, List, [], ◌∷◌, Bool, true, false, IsTrue, None, Option, if◌then◌else◌, nat_cmp, get_or}
use Rattle.std.proofs.Common.{refl, sym, ap, subst, ◌∙◌, arith, inl}
use Rattle.std.specs.List.{AllByRecursion, cons_option}
use Rattle.std.specs.List.Sorted.{IsStrictlySortedBy}
use Rattle.std.proofs.lemmas.Bool.{false≢true}
use Rattle.lt_ranges.specs.Numbers.{is_in}
use Rattle.lt_seq.specs.declared.event.Event.{Event}
use Rattle.lt_seq.specs.Table.{Setting}
use Rattle.lt_trace.specs.declared.line.Line.{Line}
use Rattle.lt_requests.specs.declared.wish.Wish.{Wish}
use Rattle.lt_runner.specs.TurnView.{Seat}
use Rattle.lt_runner.specs.Plays.{next_wish}
use Rattle.lt_runner.specs.Played.{Search, Stands, AllStand}
use Rattle.lt_runner.specs.PlaysOn.{IsFit}
use Rattle.lt_runner.specs.Standing.{AreFitDeeds}
use Rattle.lt_runner.specs.Listed.{listed_in, IsSeated}
use Rattle.lt_runner.proofs.ChoiceLaws.{on_false}
use Rattle.lt_runner.proofs.StandingLaws.{seats_stand, waiters_have_lines}
use Rattle.lt_crew.specs.Crew.{numbers_in, IsPlayedOut, IsRound}
use Rattle.lt_crew.specs.Rounds.{AreRounds, worked, IsMoved, played, stayed, AreMoved, AreOfTrace}
use Rattle.lt_crew.specs.RoundsCrew.{ArePlayedOut, RoundsStayCrew}
use Rattle.lt_crew.proofs.CrewRunLaws.{rounds_stand}

-- what one that is registered waits for
abbrev wish_now : Seat → Option Wish
wish_now seat = if seat.listed then next_wish seat.turn.txn seat.turn.lines else None

-- what a round leaves of one transaction
record IsLeft (setting : Setting) (was is : Seat) : Type 0 where
  number : is.turn.txn ≡ was.turn.txn
  fit : IsFit setting is
  seated : IsSeated is
  wish : wish_now is ≡ wish_now was

-- and of all
record AreLeft (setting : Setting) (old new : List Seat) : Type 0 where
  numbers : numbers_in new ≡ numbers_in old
  fit : AllByRecursion (IsFit setting) new
  seated : AllByRecursion IsSeated new
  listed : listed_in new ≡ listed_in old

same_left : (setting : Setting) (was is : Seat) → is ≡ was → IsFit setting was → IsSeated was → IsLeft setting was is
same_left setting was is same fit seated =
    subst (IsLeft setting was) (sym same) (record { number = refl; fit = fit; seated = seated; wish = refl })

-- one that was not registered is not now, and one that was waits and was left
out_left : (setting : Setting) (lines : List Line) (searches : List Search) (history : List Event) (was is : Seat) → AreFitDeeds setting lines →
    is.turn.txn ≡ was.turn.txn → IsPlayedOut was is → IsFit setting is → IsFit setting was → IsSeated was →
    Stands true setting searches lines history is → IsLeft setting was is
out_left setting lines searches history was is deeds number out fit fit_was seated stands = by_listed was.listed refl
  where
    by_listed : (b : Bool) → was.listed ≡ b → IsLeft setting was is
    by_listed true e = same_left setting was is (out.stuck (inl (seated.waits e))) fit_was seated
    by_listed false e =
        let free : is.listed ≡ false = out.listed e in
        record {
          number = number;
          fit = fit;
          seated = record {
            lock = λ waits. (waiters_have_lines setting is.turn (seats_stand setting searches lines history is deeds stands) waits).0;
            waits = λ l. absurd (false≢true (sym free ∙ l));
          };
          wish = on_false is.listed (next_wish is.turn.txn is.turn.lines) None free
              ∙ sym (on_false was.listed (next_wish was.turn.txn was.turn.lines) None e);
        }

module _ (setting : Setting) (before history : List Event) (were are : ℕ → List Seat) (round : IsRound setting [] before history were are)
    (all_out : ArePlayedOut setting were are) (lines : List Line) (searches : List Search) (deeds : AreFitDeeds setting lines) where
  one_left : (was is : Seat) → IsMoved setting were are was is → IsFit setting was → IsSeated was →
      Stands true setting searches lines history is → IsLeft setting was is
  one_left was is (stayed same none) fit seated stands = same_left setting was is same fit seated
  one_left was is (played pass i there inside at put) fit seated stands =
      let both = all_out.out pass there in
      let out : IsPlayedOut was is = subst (λ (s : Seat). IsPlayedOut s is) (sym at)
      (subst (IsPlayedOut (get_or (were pass) i was)) (sym put) (both.1 i was inside)) in
      let fit_now : IsFit setting is = subst (IsFit setting) (sym put) (all_out.fit pass there i was (omega (arith, inside, both.0))) in
      out_left setting lines searches history was is deeds
      (ap (λ (s : Seat). s.turn.txn) put ∙ (round.worked pass there).txns i was inside ∙ ap (λ (s : Seat). s.turn.txn) (sym at))
      out fit_now fit seated stands

  all_left : (old new : List Seat) → AreMoved setting were are old new → AllByRecursion (IsFit setting) old → AllByRecursion IsSeated old →
      AllByRecursion (Stands true setting searches lines history) new → AreLeft setting old new
  all_left [] [] moved fit seated stand = record { numbers = refl; fit = tt; seated = tt; listed = refl }
  all_left [] (is ∷ later) moved fit seated stand = absurd moved
  all_left (was ∷ earlier) [] moved fit seated stand = absurd moved
  all_left (was ∷ earlier) (is ∷ later) moved fit seated stand =
      let here = one_left was is moved.0 fit.0 seated.0 stand.0 in
      let rest = all_left earlier later moved.1 fit.1 seated.1 stand.1 in
      record {
        numbers = λ j. here.number j ∷ rest.numbers j;
        fit = (here.fit, rest.fit);
        seated = (here.seated, rest.seated);
        listed = λ j. cons_option (here.wish j) (rest.listed j);
      }

pub rounds_stay_crew : RoundsStayCrew
rounds_stay_crew setting before history were are round all_out old new among moved lines registry deeds crew = record {
  searches = crew.searches;
  rounds = rounds;
  registered = record {
    sorted = subst (IsStrictlySortedBy nat_cmp) (sym left.numbers) crew.registered.sorted;
    seated = left.seated;
    all = crew.registered.all ∙ sym left.listed;
  };
  fit = left.fit;
}
  where
    stood : AllStand true setting crew.searches lines before old
    stood = rounds_stand setting lines crew.searches before old crew.rounds

    of_trace : AreOfTrace lines were
    of_trace pass txn there = subst (λ (ns : List ℕ). IsTrue (is_in txn ns)) stood.numbers (among pass txn there)

    rounds : AreRounds setting lines crew.searches history new
    rounds = worked were are crew.rounds round moved of_trace

    left : AreLeft setting old new
    left = all_left setting before history were are round all_out lines crew.searches deeds old new moved crew.fit crew.registered.seated
        (rounds_stand setting lines crew.searches history new rounds).stand
