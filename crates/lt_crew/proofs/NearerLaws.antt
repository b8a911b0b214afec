-- A round and the caller's turn behind it take steps.
use Rattle.std.proofs.Common.{◌≡◌, ◌⊎◌, ℕ, zero, suc, ◌-◌, ◌*◌, ◌<◌, ◌≤◌, List, [], ◌∷◌, Bool, true, false, is_some, if◌then◌else◌}
use Rattle.std.proofs.Common.{length, get_or, refl, sym, ap, subst, ◌∙◌, arith, inl, inr}
use Rattle.std.specs.List.{AllByRecursion}
use Rattle.lt_seq.specs.declared.event.Event.{Event}
use Rattle.lt_seq.specs.Table.{Setting}
use Rattle.lt_trace.specs.declared.line.Line.{Line}
use Rattle.lt_requests.specs.declared.wish.Wish.{Wish}
use Rattle.lt_runner.specs.declared.release.Release.{Release}
use Rattle.lt_runner.specs.TurnView.{Seat}
use Rattle.lt_runner.specs.Played.{Stands}
use Rattle.lt_runner.specs.PlaysOn.{IsFit}
use Rattle.lt_runner.specs.Work.{steps, some_left}
use Rattle.lt_runner.specs.CrewCost.{sum_of}
use Rattle.lt_runner.specs.Standing.{AreFitDeeds}
use Rattle.lt_runner.proofs.StandingLaws.{seats_stand, waiters_have_lines}
use Rattle.lt_crew.specs.Crew.{IsPlayedOut, IsStill, IsDone, IsRound}
use Rattle.lt_crew.specs.Rounds.{IsMoved, played, stayed, AreMoved}
use Rattle.lt_crew.specs.Workers.{EachPair}
use Rattle.lt_crew.specs.Caller.{IsCrew}
use Rattle.lt_crew.specs.CallersTurn.{IsTurned}
use Rattle.lt_crew.specs.RoundsCrew.{ArePlayedOut, HasStep, CrewsComeNearer}
use Rattle.lt_crew.proofs.CrewRunLaws.{rounds_stand}
use Rattle.lt_crew.proofs.RoundsCrewLaws.{rounds_stay_crew}

-- Steps that are left.

pub steps_at : (seat : Seat) (b : Bool) → is_some seat.turn.outcome ≡ b →
    steps seat ≡ (if b then some_left seat.turn.releases else 2 * length seat.turn.lines - (if seat.turn.waits then 1 else 0))
steps_at seat b e =
    ap (λ (c : Bool). if c then some_left seat.turn.releases else 2 * length seat.turn.lines - (if seat.turn.waits then 1 else 0)) e

some_few : (rs : List Release) → some_left rs ≤ 1
some_few [] = omega arith
some_few (r ∷ rs) = omega arith

-- one that waits with lines left
steps_waiting : (seat : Seat) → seat.turn.waits ≡ true → 2 ≤ length seat.turn.lines → steps seat < 2 * length seat.turn.lines
steps_waiting seat waits lines = by_end (is_some seat.turn.outcome) refl
  where
    by_end : (b : Bool) → is_some seat.turn.outcome ≡ b → steps seat < 2 * length seat.turn.lines
    by_end true e = omega (arith, steps_at seat true e, some_few seat.turn.releases, lines)
    by_end false e =
        let one = ap (λ (w : Bool). 2 * length seat.turn.lines - (if w then 1 else 0)) waits in
        omega (arith, steps_at seat false e, one, lines)

-- one that goes on with lines left
steps_going : (setting : Setting) (seat : Seat) → IsFit setting seat → seat.turn.waits ≡ false → 1 ≤ length seat.turn.lines →
    steps seat ≡ 2 * length seat.turn.lines
steps_going setting seat fit goes lines = by_end (is_some seat.turn.outcome) refl
  where
    by_end : (b : Bool) → is_some seat.turn.outcome ≡ b → steps seat ≡ 2 * length seat.turn.lines
    by_end true e =
        let none = ap length (fit.over e) in
        absurd (omega (arith, none, lines))
    by_end false e =
        let all = ap (λ (w : Bool). 2 * length seat.turn.lines - (if w then 1 else 0)) goes in
        omega (arith, steps_at seat false e, all)

steps_done : (seat : Seat) → IsDone seat → steps seat ≡ 0
steps_done seat done = by_end (is_some seat.turn.outcome) refl
  where
    by_end : (b : Bool) → is_some seat.turn.outcome ≡ b → steps seat ≡ 0
    by_end true e = steps_at seat true e ∙ ap some_left (done.releases e)
    by_end false e =
        let none = ap length done.lines in
        omega (arith, steps_at seat false e, none)

-- One transaction.

out_nearer : (setting : Setting) (was between is : Seat) → IsFit setting was → was.turn.waits ≡ false → 0 < steps was → IsPlayedOut was between →
    (between.turn.waits ≡ true → 2 ≤ length between.turn.lines) → IsTurned between is → steps is < steps was
out_nearer setting was between is fit goes some out lines turned = by_still out.still
  where
    waiting : between.turn.waits ≡ true → steps is < steps was
    waiting waits =
        let left = lines waits in
        omega (
          arith,
          turned.steps,
          steps_waiting between waits left,
          out.lines,
          steps_going setting was fit goes (omega (arith, left, out.lines)),
        )

    nearer : (steps is < steps between) ⊎ (steps is ≡ 0) → steps is < steps was
    nearer (inl less) = omega (arith, less, out.steps)
    nearer (inr none) = omega (arith, none, some)

    refused : between.busy ≡ true → (w : Bool) → between.turn.waits ≡ w → steps is < steps was
    refused busy true e = waiting e
    refused busy false e = nearer (turned.nearer (ap (λ (w : Bool). if w then false else between.busy) e ∙ busy))

    by_still : IsStill between → steps is < steps was
    by_still (inl (inl waits)) = waiting waits
    by_still (inl (inr busy)) = refused busy between.turn.waits refl
    by_still (inr done) = omega (arith, steps_done between done, turned.steps, some)

module _ (setting : Setting) (before history : List Event) (were are : ℕ → List Seat) (round : IsRound setting [] before history were are)
    (all_out : ArePlayedOut setting were are) where
  pub out_at : (was between : Seat) (pass i : ℕ) → pass < setting.plan.passes → i < length (were pass) → was ≡ get_or (were pass) i was →
      between ≡ get_or (are pass) i was → IsPlayedOut was between
  out_at was between pass i there inside at put =
      subst (λ (s : Seat). IsPlayedOut s between) (sym at)
      (subst (IsPlayedOut (get_or (were pass) i was)) (sym put) ((all_out.out pass there).1 i was inside))

  one_back : (was between is : Seat) → IsMoved setting were are was between → IsTurned between is → steps is ≤ steps was
  one_back was between is (stayed same none) turned = omega (arith, turned.steps, ap steps same)
  one_back was between is (played pass i there inside at put) turned =
      omega (arith, turned.steps, (out_at was between pass i there inside at put).steps)

  one_nearer : (was between is : Seat) → IsMoved setting were are was between → IsFit setting was → HasStep were was →
      (between.turn.waits ≡ true → 2 ≤ length between.turn.lines) → IsTurned between is → steps is < steps was
  one_nearer was between is (stayed same none) fit step lines turned = absurd (none step.pass step.dealt)
  one_nearer was between is (played pass i there inside at put) fit step lines turned =
      out_nearer setting was between is fit step.goes step.some (out_at was between pass i there inside at put) lines turned

  -- All of them.

  tail : (m n : Seat) (ms ns : List Seat) → EachPair IsTurned (m ∷ ms) (n ∷ ns) → EachPair IsTurned ms ns
  tail m n ms ns pairs = (omega (arith, pairs.0), λ i d inside. pairs.1 (suc i) d (omega (arith, inside)))

  all_back : (old between new : List Seat) → AreMoved setting were are old between → EachPair IsTurned between new →
      sum_of steps new ≤ sum_of steps old
  all_back [] [] [] moved turned = omega arith
  all_back [] [] (n ∷ ns) moved turned = absurd (omega (arith, turned.0))
  all_back [] (m ∷ ms) new moved turned = absurd moved
  all_back (o ∷ os) [] new moved turned = absurd moved
  all_back (o ∷ os) (m ∷ ms) [] moved turned = absurd (omega (arith, turned.0))
  all_back (o ∷ os) (m ∷ ms) (n ∷ ns) moved turned =
      omega (arith, one_back o m n moved.0 (turned.1 0 o (omega arith)), all_back os ms ns moved.1 (tail m n ms ns turned))

  all_nearer : (old between new : List Seat) (index : ℕ) (d : Seat) → AreMoved setting were are old between →
      AllByRecursion (IsFit setting) old → AllByRecursion (λ s. s.turn.waits ≡ true → 2 ≤ length s.turn.lines) between →
      EachPair IsTurned between new → index < length old → HasStep were (get_or old index d) → sum_of steps new < sum_of steps old
  all_nearer [] between new index d moved fit lines turned inside step = absurd (omega (arith, inside))
  all_nearer (o ∷ os) [] new index d moved fit lines turned inside step = absurd moved
  all_nearer (o ∷ os) (m ∷ ms) [] index d moved fit lines turned inside step = absurd (omega (arith, turned.0))
  all_nearer (o ∷ os) (m ∷ ms) (n ∷ ns) zero d moved fit lines turned inside step =
      omega (
        arith,
        one_nearer o m n moved.0 fit.0 step lines.0 (turned.1 0 o (omega arith)),
        all_back os ms ns moved.1 (tail m n ms ns turned),
      )
  all_nearer (o ∷ os) (m ∷ ms) (n ∷ ns) (suc index) d moved fit lines turned inside step =
      omega (
        arith,
        one_back o m n moved.0 (turned.1 0 o (omega arith)),
        all_nearer os ms ns index d moved.1 fit.1 lines.1 (tail m n ms ns turned) (omega (arith, inside)) step,
      )

have_lines : (setting : Setting) (lines : List Line) (history : List Event) (registry : List Wish) (all : List Seat) → AreFitDeeds setting lines →
    (crew : IsCrew setting lines history registry all) → (seats : List Seat) →
    AllByRecursion (Stands true setting crew.searches lines history) seats →
    AllByRecursion (λ s. s.turn.waits ≡ true → 2 ≤ length s.turn.lines) seats
have_lines setting lines history registry all deeds crew [] stand = tt
have_lines setting lines history registry all deeds crew (s ∷ ss) stand = (
  λ waits. (waiters_have_lines setting s.turn (seats_stand setting crew.searches lines history s deeds stand.0) waits).1,
  have_lines setting lines history registry all deeds crew ss stand.1,
)

pub crews_come_nearer : CrewsComeNearer
crews_come_nearer setting lines registry before history were are old between new deeds round all_out among moved crew turned = record {
  back = all_back setting before history were are round all_out old between new moved turned;
  on = λ index d inside step. all_nearer setting before history were are round all_out old between new index d moved crew.fit lines_left turned
      inside step;
}
  where
    behind : IsCrew setting lines history registry between
    behind = rounds_stay_crew setting before history were are round all_out old between among moved lines registry deeds crew

    lines_left : AllByRecursion (λ s. s.turn.waits ≡ true → 2 ≤ length s.turn.lines) between
    lines_left = have_lines setting lines history registry between deeds behind between
        (rounds_stand setting lines behind.searches history between behind.rounds).stand
