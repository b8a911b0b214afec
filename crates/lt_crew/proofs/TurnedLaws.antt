-- A whole turn of the caller.
use Rattle.std.proofs.Common.{◌≡◌, ◌⊎◌, ℕ, ◌<◌, ◌≤◌, List, Bool, true, false, Some, Result, Ok, Err, if◌then◌else◌, get_or, ◌∷◌}
use Rattle.std.proofs.Common.{inl, inr, refl, sym, subst, ◌∙◌, arith}
use Rattle.std.proofs.lemmas.Bool.{false≢true}
use Rattle.lt_seq.specs.Table.{Setting}
use Rattle.lt_seq.specs.Yard.{PassView}
use Rattle.lt_seq.specs.declared.fault.Fault.{Fault}
use Rattle.lt_seq.specs.declared.fault.Fault.TheVariants.{OutOfMemory, Busy, HistoryFull, OutOfLocks}
use Rattle.lt_requests.specs.declared.wish.Wish.{Wish}
use Rattle.lt_requests.specs.declared.started.Started.{Started}
use Rattle.lt_requests.specs.declared.started.Started.TheVariants.{Granted as StartedGranted, Waits, Deadlock}
use Rattle.lt_runner.specs.TurnView.{Seat, Turn}
use Rattle.lt_runner.specs.Board.{IsAnswered, seat_so}
use Rattle.lt_runner.specs.Plays.{next_wish}
use Rattle.lt_runner.specs.Seats.{granted_at}
use Rattle.lt_runner.specs.Work.{steps}
use Rattle.lt_runner.proofs.LockMoveLaws.{has_lock, HasLock}
use Rattle.lt_trace.specs.declared.line.Line.{Line}
use Rattle.lt_trace.specs.declared.line.LineDeed.{LineDeed}
use Rattle.lt_crew.specs.Caller.{IsNearer, is_refused, AsksStay, StaysCrew}
use Rattle.lt_crew.specs.CallersTurn.{IsPlayedOn, PlayedOn, IsAnsweredNow, Answered, IsTurned}
use Rattle.lt_crew.specs.Workers.{EachPair}

calm_answer : (turn : Turn) (answer : Result Started Fault) → (seat_so turn answer).busy ≡ false
calm_answer turn (Ok (StartedGranted place buffered)) = refl
calm_answer turn (Ok (Waits owners)) = refl
calm_answer turn (Ok (Deadlock walk)) = refl
calm_answer turn (Err OutOfMemory) = refl
calm_answer turn (Err (Busy row holder)) = refl
calm_answer turn (Err (HistoryFull place)) = refl
calm_answer turn (Err (OutOfLocks place rows)) = refl

quiet_granted : (turn : Turn) (wish : Wish) (buffered : Bool) → HasLock turn.txn wish turn.lines → (granted_at turn buffered).waits ≡ false
quiet_granted turn wish buffered at =
    subst (λ (ls : List Line). (granted_at (record turn { lines = ls }) buffered).waits ≡ false) (sym at.next)
    (subst (λ (d : LineDeed). (granted_at (record turn { lines = record at.line { deed = d } ∷ at.rest }) buffered).waits ≡ false) (sym at.lock)
    refl)

listed_answer : (turn : Turn) (wish : Wish) (answer : Result Started Fault) → next_wish turn.txn turn.lines ≡ Some wish → IsAnswered answer →
    (seat_so turn answer).turn.waits ≡ true → (seat_so turn answer).listed ≡ true
listed_answer turn wish (Ok (StartedGranted place buffered)) next has waits =
    absurd (false≢true (sym (quiet_granted turn wish buffered (has_lock turn.txn wish turn.lines next)) ∙ waits))
listed_answer turn wish (Ok (Waits owners)) next has waits = refl
listed_answer turn wish (Ok (Deadlock walk)) next has waits = absurd (false≢true waits)
listed_answer turn wish (Err OutOfMemory) next has waits = absurd has
listed_answer turn wish (Err (Busy row holder)) next has waits = absurd has
listed_answer turn wish (Err (HistoryFull place)) next has waits = absurd has
listed_answer turn wish (Err (OutOfLocks place rows)) next has waits = absurd (false≢true waits)

-- what the play came to: calm or over unless it waits, no step back, nearer where it was refused
record IsPlayedThen (was between : Seat) : Type 0 where
  calm : between.turn.waits ≡ false → (between.busy ≡ false) ⊎ (steps between ≡ 0)
  nearer : is_refused was ≡ true → (steps between < steps was) ⊎ (steps between ≡ 0)
  steps_on : steps between ≤ steps was

played_then : (was between : Seat) → IsPlayedOn was between → IsPlayedThen was between
played_then was between played = by_test (is_refused was) refl played
  where
    near : IsNearer was between → IsPlayedThen was between
    near (inl p) = record { calm = λ w. inl p.0; nearer = λ r. inl p.1; steps_on = omega (arith, p.1) }
    near (inr none) = record { calm = λ w. inr none; nearer = λ r. inr none; steps_on = omega (arith, none) }

    free : is_refused was ≡ false → was.turn.waits ≡ false → was.busy ≡ false
    free test goes = subst (λ (b : Bool). (if b then false else was.busy) ≡ false) goes test

    by_test : (b : Bool) → is_refused was ≡ b → PlayedOn b was between → IsPlayedThen was between
    by_test true test p = near p
    by_test false test p = subst (IsPlayedThen was) (sym p) (record {
      calm = λ w. inl (free test w);
      nearer = λ r. absurd (false≢true (sym test ∙ r));
      steps_on = omega arith;
    })

turned : (was between is : Seat) → IsPlayedOn was between → IsAnsweredNow between is → IsTurned was is
turned was between is played asked = by_test between.turn.waits refl asked
  where
    so : IsPlayedThen was between
    so = played_then was between played

    less : (k : ℕ) → k ≤ steps between → (steps between < steps was) ⊎ (steps between ≡ 0) → (k < steps was) ⊎ (k ≡ 0)
    less k back (inl l) = inl (omega (arith, l, back))
    less k back (inr none) = inr (omega (arith, none, back))

    by_test : (b : Bool) → between.turn.waits ≡ b → Answered b between is → IsTurned was is
    by_test true test p = record {
      calm = inl (subst (λ (s : Seat). s.busy ≡ false) (sym p.seat_is) (calm_answer between.turn p.answer));
      listed = subst (λ (s : Seat). s.turn.waits ≡ true → s.listed ≡ true) (sym p.seat_is)
          (listed_answer between.turn p.wish p.answer p.next p.has);
      nearer = λ r. less (steps is) p.steps (so.nearer r);
      steps = omega (arith, p.steps, so.steps_on);
    }
    by_test false test p = subst (IsTurned was) (sym p) (record {
      calm = so.calm test;
      listed = λ w. absurd (false≢true (sym test ∙ w));
      nearer = so.nearer;
      steps = so.steps_on;
    })

pub each_turned : (were between are : List Seat) → EachPair IsPlayedOn were between → EachPair IsAnsweredNow between are →
    EachPair IsTurned were are
each_turned were between are played asked = (
  asked.0 ∙ played.0,
  λ i d inside. turned (get_or were i d) (get_or between i d) (get_or are i d)
      (played.1 i d inside) (asked.1 i d (omega (arith, inside, played.0))),
)

pub turn_stays : (setting : Setting) (first between last : PassView) (us vs : List Wish) (xs ys zs : List Seat) →
    StaysCrew setting first.front between.front xs ys → AsksStay setting between.front last.front us vs ys zs →
    AsksStay setting first.front last.front us vs xs zs
turn_stays setting first between last us vs xs ys zs played asked lines deeds crew = asked lines deeds (played lines us deeds crew)
