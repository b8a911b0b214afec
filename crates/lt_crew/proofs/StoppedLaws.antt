-- A round in which nobody can take a step: each transaction waits or is over behind it.
use Rattle.std.proofs.Common.{◌≡◌, ◌⊎◌, ℕ, zero, suc, ◌<◌, ◌≤◌, List, [], ◌∷◌, Bool, true, false, is_some, if◌then◌else◌}
use Rattle.std.proofs.Common.{length, get_or, refl, sym, ap, subst, ◌∙◌, arith, inl, inr}
use Rattle.std.specs.List.{AllByRecursion}
use Rattle.std.proofs.lemmas.Bool.{false≢true}
use Rattle.lt_seq.specs.declared.event.Event.{Event}
use Rattle.lt_seq.specs.Table.{Setting}
use Rattle.lt_trace.specs.declared.line.Line.{Line}
use Rattle.lt_runner.specs.declared.release.Release.{Release}
use Rattle.lt_runner.specs.TurnView.{Seat}
use Rattle.lt_runner.specs.Plays.{has_last}
use Rattle.lt_runner.specs.Played.{IsOver}
use Rattle.lt_runner.specs.Work.{steps, some_left}
use Rattle.lt_runner.specs.CrewCost.{sum_of}
use Rattle.lt_runner.specs.Standing.{IsStanding, AllWaitOrAreOver}
use Rattle.lt_runner.specs.Listed.{IsSeated}
use Rattle.lt_runner.specs.Retries.{AllWaitersListed}
use Rattle.lt_crew.specs.Crew.{IsPlayedOut, IsRound}
use Rattle.lt_crew.specs.Rounds.{IsMoved, played, stayed, AreMoved}
use Rattle.lt_crew.specs.RoundsCrew.{ArePlayedOut}
use Rattle.lt_crew.proofs.NearerLaws.{steps_at, out_at}

-- it waits, or has no step left
abbrev pub IsStopped : Seat → Type 0
IsStopped seat = (seat.turn.waits ≡ true) ⊎ (steps seat ≡ 0)

-- one that does not wait and has a step left
pub record IsGoing (seats : List Seat) : Type 0 where
  pub index : ℕ
  pub inside : index < length seats
  pub goes : (d : Seat) → (get_or seats index d).turn.waits ≡ false
  pub some : (d : Seat) → 0 < steps (get_or seats index d)

pub find_going : (seats : List Seat) → IsGoing seats ⊎ AllByRecursion IsStopped seats
find_going [] = inr tt
find_going (s ∷ ss) = by_rest (find_going ss)
  where
    by_steps : (n : ℕ) → steps s ≡ n → s.turn.waits ≡ false → AllByRecursion IsStopped ss → IsGoing (s ∷ ss) ⊎ AllByRecursion IsStopped (s ∷ ss)
    by_steps zero is goes all = inr (inr is, all)
    by_steps (suc n) is goes all =
        inl (record { index = 0; inside = omega arith; goes = λ d. goes; some = λ d. omega (arith, is) })

    by_waits : (b : Bool) → s.turn.waits ≡ b → AllByRecursion IsStopped ss → IsGoing (s ∷ ss) ⊎ AllByRecursion IsStopped (s ∷ ss)
    by_waits true is all = inr (inl is, all)
    by_waits false is all = by_steps (steps s) refl is all

    by_rest : IsGoing ss ⊎ AllByRecursion IsStopped ss → IsGoing (s ∷ ss) ⊎ AllByRecursion IsStopped (s ∷ ss)
    by_rest (inl going) =
        inl (record { index = suc going.index; inside = omega (arith, going.inside); goes = going.goes; some = going.some })
    by_rest (inr all) = by_waits s.turn.waits refl all

-- One without a step is over.

none_left : (rs : List Release) → some_left rs ≡ 0 → rs ≡ []
none_left [] none = refl
none_left (r ∷ rs) none = absurd (omega (arith, none))

some_line : (lines : List Line) → has_last lines ≡ true → 1 ≤ length lines
some_line [] last = absurd (false≢true last)
some_line (line ∷ lines) last = omega arith

at_most_one : (b : Bool) → (if b then 1 else 0) ≤ 1
at_most_one true = omega arith
at_most_one false = omega arith

pub over_without_steps : (setting : Setting) (seat : Seat) → IsStanding setting seat.turn → steps seat ≡ 0 → IsOver seat
over_without_steps setting seat stands none = by_end (is_some seat.turn.outcome) refl
  where
    by_end : (b : Bool) → is_some seat.turn.outcome ≡ b → IsOver seat
    by_end true e = (e, none_left seat.turn.releases (sym (steps_at seat true e) ∙ none))
    by_end false e =
        let lines = some_line seat.turn.lines (stands.last e) in
        absurd (omega (arith, none, steps_at seat false e, lines, at_most_one seat.turn.waits))

-- What is left of such transactions, where one that waits is left as it was.

pub record IsSettledSeat (was is : Seat) : Type 0 where
  pub rests : (is.turn.waits ≡ true) ⊎ IsOver is
  pub listed : is.listed ≡ is.turn.waits
  pub waits : was.turn.waits ≡ true → is.turn.waits ≡ true
  pub back : steps is ≤ steps was

over_settled : (setting : Setting) (was is : Seat) → IsStanding setting is.turn → IsSeated is → was.turn.waits ≡ false → steps is ≤ 0 →
    steps is ≤ steps was → IsSettledSeat was is
over_settled setting was is stands seated goes none back =
    let over = over_without_steps setting is stands (omega (arith, none)) in
    let quiet : is.turn.waits ≡ false = stands.steady.still over.0 in
    record { rests = inr over; listed = by_listed is.listed refl quiet; waits = λ w. absurd (false≢true (sym goes ∙ w)); back = back }
  where
    by_listed : (b : Bool) → is.listed ≡ b → is.turn.waits ≡ false → is.listed ≡ is.turn.waits
    by_listed true e quiet = absurd (false≢true (sym quiet ∙ seated.waits e))
    by_listed false e quiet = e ∙ sym quiet

waiter_settled : (was is : Seat) → is ≡ was → was.turn.waits ≡ true → was.listed ≡ was.turn.waits → IsSettledSeat was is
waiter_settled was is same waits listed = subst (IsSettledSeat was) (sym same)
    (record { rests = inl waits; listed = listed; waits = λ w. w; back = omega arith })

pub seat_settled : (setting : Setting) (was is : Seat) → IsStopped was → was.listed ≡ was.turn.waits → IsStanding setting is.turn → IsSeated is →
    steps is ≤ steps was → (was.turn.waits ≡ true → is ≡ was) → IsSettledSeat was is
seat_settled setting was is stopped listed stands seated back stays = by_waits was.turn.waits refl stopped
  where
    by_waits : (b : Bool) → was.turn.waits ≡ b → IsStopped was → IsSettledSeat was is
    by_waits true e h = waiter_settled was is (stays e) e listed
    by_waits false e (inl waits) = absurd (false≢true (sym e ∙ waits))
    by_waits false e (inr none) = over_settled setting was is stands seated e (omega (arith, back, none)) back

-- and of all of them
pub record AreSettled (old new : List Seat) : Type 0 where
  pub rest : AllWaitOrAreOver new
  pub listed : AllWaitersListed new
  pub waits : (index : ℕ) (d : Seat) → index < length old → (get_or old index d).turn.waits ≡ true → (get_or new index d).turn.waits ≡ true
  pub back : sum_of steps new ≤ sum_of steps old

pub settled_more : (was is : Seat) (old new : List Seat) → IsSettledSeat was is → AreSettled old new → AreSettled (was ∷ old) (is ∷ new)
settled_more was is old new here later = record {
  rest = (here.rests, later.rest);
  listed = (here.listed, later.listed);
  waits = by_index;
  back = omega (arith, here.back, later.back);
}
  where
    by_index : (index : ℕ) (d : Seat) → index < length (was ∷ old) → (get_or (was ∷ old) index d).turn.waits ≡ true →
        (get_or (is ∷ new) index d).turn.waits ≡ true
    by_index zero d inside w = here.waits w
    by_index (suc index) d inside w = later.waits index d (omega (arith, inside)) w

module _ (setting : Setting) (before history : List Event) (were are : ℕ → List Seat) (round : IsRound setting [] before history were are)
    (all_out : ArePlayedOut setting were are) where
  one_settled : (was is : Seat) → IsMoved setting were are was is → IsStopped was → was.listed ≡ was.turn.waits →
      IsStanding setting is.turn → IsSeated is → IsSettledSeat was is
  one_settled was is (stayed same none) stopped listed stands seated =
      seat_settled setting was is stopped listed stands seated (omega (arith, ap steps same)) (λ w. same)
  one_settled was is (played pass i there inside at put) stopped listed stands seated =
      let out : IsPlayedOut was is = out_at setting before history were are round all_out was is pass i there inside at put in
      seat_settled setting was is stopped listed stands seated out.steps (λ w. out.stuck (inl w))

  pub all_settled : (old new : List Seat) → AreMoved setting were are old new → AllByRecursion IsStopped old → AllWaitersListed old →
      AllByRecursion (λ s. IsStanding setting s.turn) new → AllByRecursion IsSeated new → AreSettled old new
  all_settled [] [] moved stopped listed stands seated =
      record { rest = tt; listed = tt; waits = λ index d inside w. absurd (omega (arith, inside)); back = omega arith }
  all_settled [] (n ∷ ns) moved stopped listed stands seated = absurd moved
  all_settled (o ∷ os) [] moved stopped listed stands seated = absurd moved
  all_settled (o ∷ os) (n ∷ ns) moved stopped listed stands seated =
      settled_more o n os ns (one_settled o n moved.0 stopped.0 listed.0 stands.0 seated.0)
      (all_settled os ns moved.1 stopped.1 listed.1 stands.1 seated.1)
