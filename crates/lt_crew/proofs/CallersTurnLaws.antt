-- The caller's moves, one place after another.
use Rattle.std.proofs.Common.{◌≡◌, ℕ, zero, suc, ◌+◌, ◌*◌, ◌<◌, ◌≤◌, List, [], ◌∷◌, Bool, true, false, Result, Ok, Err, is_some, length, get_or}
use Rattle.std.proofs.Common.{refl, ap, sym, subst, ◌∙◌, arith}
use Rattle.lt_seq.specs.Table.{Setting}
use Rattle.lt_seq.specs.Yard.{PassView, place_after, places_end}
use Rattle.lt_runner.specs.TurnView.{Seat}
use Rattle.lt_runner.specs.CrewCost.{sum_of, pass_cost}
use Rattle.lt_runner.specs.Played.{Stands}
use Rattle.lt_runner.specs.Standing.{IsStanding}
use Rattle.lt_runner.specs.Work.{work, steps, lines_work, owed, tries_work}
use Rattle.lt_runner.proofs.ChoiceLaws.{on_true}
use Rattle.lt_runner.proofs.CrewCostLaws.{sum_set}
use Rattle.lt_runner.proofs.StandingLaws.{seats_stand}
use Rattle.lt_seq.specs.declared.fault.Fault.{Fault}
use Rattle.lt_seq.specs.declared.fault.Fault.TheVariants.{OutOfMemory, Busy, HistoryFull, OutOfLocks}
use Rattle.lt_requests.specs.declared.wish.Wish.{Wish}
use Rattle.lt_requests.specs.declared.started.Started.{Started}
use Rattle.lt_requests.specs.declared.started.Started.TheVariants.{Granted as StartedGranted, Waits, Deadlock}
use Rattle.lt_runner.specs.Board.{IsAnswered, seat_so}
use Rattle.lt_runner.specs.StartsCost.{StartsCost}
use Rattle.lt_runner.specs.Listed.{wishes_for}
use Rattle.lt_crew.specs.Caller.{IsSomeCrew, IsCrewOf, StaysCrew, AsksStay, PlaysAt, AsksAt, IsPlayedAt, IsAskedAt, is_refused}
use Rattle.lt_crew.specs.CallersTurn.{ArePaid, HasPlaces, IsPlayedOn, PlayedOn, IsAnsweredNow, Answered, HasAnswerNow}
use Rattle.lt_crew.specs.Workers.{UpTo}
use Rattle.lt_crew.proofs.CallerLaws.{all_at}
use Rattle.lt_crew.proofs.CrewRunLaws.{rounds_stand}
use Rattle.std.proofs.lemmas.List.{get_or_default}
use Rattle.lt_crew.proofs.PairLaws.{up_to_more, up_to_left}

sum_at : (f : Seat → ℕ) (seats : List Seat) (i : ℕ) (d : Seat) → i < length seats → f (get_or seats i d) ≤ sum_of f seats
sum_at f [] i d inside = absurd (omega arith)
sum_at f (s ∷ ss) zero d inside = omega arith
sum_at f (s ∷ ss) (suc i) d inside = omega (arith, sum_at f ss i d (omega arith))

few_owed : (setting : Setting) (seat : Seat) → IsStanding setting seat.turn → length seat.turn.releases ≤ work setting seat
few_owed setting seat stands = by_test (is_some seat.turn.outcome) refl
  where
    by_test : (b : Bool) → is_some seat.turn.outcome ≡ b → length seat.turn.releases ≤ work setting seat
    by_test true e = omega (
      arith,
      on_true (is_some seat.turn.outcome) (length seat.turn.releases)
          (lines_work setting.plan.trees seat.turn.lines + owed seat.turn.recorded + tries_work setting seat) e,
    )
    by_test false e = omega (arith, ap length (stands.steady.none_owed e))

-- the places that one place needs
pub places_at : (setting : Setting) (pass : PassView) (seats : List Seat) (i : ℕ) (d : Seat) → i < length seats →
    IsSomeCrew setting pass.front seats → HasPlaces setting pass seats 0 →
    place_after setting pass.front + setting.plan.trees + length (get_or seats i d).turn.releases < places_end
places_at setting pass seats i d inside some places =
    let standing = seats_stand setting some.crew.searches some.lines pass.front (get_or seats i d) some.deeds
    (all_at (Stands true setting some.crew.searches some.lines pass.front) seats i d inside
    (rounds_stand setting some.lines some.crew.searches pass.front seats some.crew.rounds).stand) in
    omega (arith, places, few_owed setting (get_or seats i d) standing, sum_at (work setting) seats i d inside)

pub some_stays : (setting : Setting) (before after : PassView) (were are : List Seat) → IsSomeCrew setting before.front were →
    StaysCrew setting before.front after.front were are → IsSomeCrew setting after.front are
some_stays setting before after were are some stays =
    record { lines = some.lines; registry = some.registry; deeds = some.deeds; crew = stays some.lines some.registry some.deeds some.crew }

pub stays_both : (setting : Setting) (first between last : PassView) (xs ys zs : List Seat) → StaysCrew setting first.front between.front xs ys →
    StaysCrew setting between.front last.front ys zs → StaysCrew setting first.front last.front xs zs
stays_both setting first between last xs ys zs one two lines registry deeds crew = two lines registry deeds (one lines registry deeds crew)

pub places_stay : (setting : Setting) (old new : PassView) (were are : List Seat) (more : ℕ) → HasPlaces setting old were more →
    ArePaid setting old new were are 0 → HasPlaces setting new are more
places_stay setting old new were are more places paid = omega (arith, places, paid)

-- what the plays came to, as far as a place
pub record ArePlayed (setting : Setting) (old new : PassView) (at : ℕ) (were are : List Seat) : Type 0 where
  pub each : UpTo IsPlayedOn at were are
  pub paid : ArePaid setting old new were are 0

seat_paid : (setting : Setting) (old between new : PassView) (at : ℕ) (were seats are : List Seat) (d : Seat) → at < length seats →
    ArePaid setting old between were seats 0 → (p : IsPlayedAt setting between new at seats are) → ArePaid setting old new were are 0
seat_paid setting old between new at were seats are d inside paid p =
    subst (λ (ss : List Seat). ArePaid setting old new were ss 0) (sym p.put)
    (omega (arith, paid, p.events, sum_set (work setting) seats at p.was p.is inside, ap (work setting) (p.at p.was)))

pub seat_there : (seats : List Seat) (i : ℕ) → i < length seats → Seat
seat_there [] i inside = absurd (omega arith)
seat_there (s ∷ ss) zero inside = s
seat_there (s ∷ ss) (suc i) inside = seat_there ss i (omega arith)

pub plays_on : (setting : Setting) (old between new : PassView) (at : ℕ) (were seats are : List Seat) → at < length seats →
    UpTo IsPlayedOn at were seats → ArePaid setting old between were seats 0 →
    ((d : Seat) → PlaysAt (is_refused (get_or seats at d)) setting between new at seats are) → ArePlayed setting old new (at + 1) were are
plays_on setting old between new at were seats are inside so_far paid plays = by_test (is_refused (get_or seats at e)) refl (plays e)
  where
    e : Seat
    e = seat_there seats at inside

    left : (b : Bool) → is_refused (get_or seats at e) ≡ b → b ≡ false → UpTo IsPlayedOn (at + 1) were seats
    left b test none = up_to_left IsPlayedOn at were seats so_far (λ d less.
        let was_it : get_or were at d ≡ get_or seats at e = sym (so_far.rest at d (omega arith)) ∙ get_or_default seats at d e inside in
        let is_it : get_or seats at d ≡ get_or seats at e = get_or_default seats at d e inside in
        subst (λ (s : Seat). IsPlayedOn s (get_or seats at d)) (sym was_it)
        (subst (λ (s : Seat). IsPlayedOn (get_or seats at e) s) (sym is_it)
        (subst (λ (c : Bool). PlayedOn c (get_or seats at e) (get_or seats at e)) (sym (test ∙ none)) refl)))

    by_test : (b : Bool) → is_refused (get_or seats at e) ≡ b → PlaysAt b setting between new at seats are →
        ArePlayed setting old new (at + 1) were are
    by_test true test p = record {
      each = subst (λ (ss : List Seat). UpTo IsPlayedOn (at + 1) were ss) (sym p.put)
          (up_to_more IsPlayedOn at were seats p.was p.is so_far inside (sym (p.at p.was))
          (subst (λ (s : Seat). IsPlayedOn s p.is) (sym (p.at p.was))
          (subst (λ (c : Bool). PlayedOn c p.was p.is) (sym (ap is_refused (sym (p.at e)) ∙ test)) p.nearer)));
      paid = seat_paid setting old between new at were seats are e inside paid p;
    }
    by_test false test p = record {
      each = subst (λ (ss : List Seat). UpTo IsPlayedOn (at + 1) were ss) (sym p.1) (left false test refl);
      paid = subst (λ (v : PassView). ArePaid setting old v were are 0) (sym p.0)
          (subst (λ (ss : List Seat). ArePaid setting old between were ss 0) (sym p.1) paid);
    }

-- Asks.

pub times_less : (i n k : ℕ) → i < n → i * k + k ≤ n * k
times_less i zero k less = absurd (omega arith)
times_less zero (suc n) k less = omega arith
times_less (suc i) (suc n) k less = omega (arith, times_less i n k (omega arith))

-- the places that one ask needs
pub room_at : (setting : Setting) (old new : PassView) (were are : List Seat) (at : ℕ) → at < length were → length are ≡ length were →
    HasPlaces setting old were (pass_cost setting.plan.trees (length were)) →
    ArePaid setting old new were are (at * (setting.plan.trees + 1 + length were)) →
    place_after setting new.front + setting.plan.trees + 1 + length are ≤ places_end
room_at setting old new were are at inside same places paid =
    omega (arith, same, places, paid, times_less at (length were) (setting.plan.trees + 1 + length were) inside)

pub crew_stays : (setting : Setting) (before after : PassView) (registry registry_now : List Wish) (were are : List Seat) →
    IsCrewOf setting before.front registry were → AsksStay setting before.front after.front registry registry_now were are →
    IsCrewOf setting after.front registry_now are
crew_stays setting before after registry registry_now were are some stays =
    record { lines = some.lines; deeds = some.deeds; crew = stays some.lines some.deeds some.crew }

pub asks_stay_both : (setting : Setting) (first between last : PassView) (us vs ws : List Wish) (xs ys zs : List Seat) →
    AsksStay setting first.front between.front us vs xs ys → AsksStay setting between.front last.front vs ws ys zs →
    AsksStay setting first.front last.front us ws xs zs
asks_stay_both setting first between last us vs ws xs ys zs one two lines deeds crew = two lines deeds (one lines deeds crew)

-- what the asks came to, as far as a place
pub record AreAsked (setting : Setting) (old new : PassView) (at : ℕ) (were are : List Seat) : Type 0 where
  pub each : UpTo IsAnsweredNow at were are
  pub paid : ArePaid setting old new were are (at * (setting.plan.trees + 1 + length were))

no_step_back : (setting : Setting) (registered : ℕ) (old new : PassView) (was : Seat) (answer : Result Started Fault) → IsAnswered answer →
    StartsCost setting registered old new was answer → steps (seat_so was.turn answer) ≤ steps was
no_step_back setting registered old new was (Ok (StartedGranted place buffered)) has cost = omega (arith, cost.1)
no_step_back setting registered old new was (Ok (Waits owners)) has cost = omega (arith, cost.1)
no_step_back setting registered old new was (Ok (Deadlock walk)) has cost = omega (arith, cost.1)
no_step_back setting registered old new was (Err OutOfMemory) has cost = absurd has
no_step_back setting registered old new was (Err (Busy row holder)) has cost = absurd has
no_step_back setting registered old new was (Err (HistoryFull place)) has cost = absurd has
no_step_back setting registered old new was (Err (OutOfLocks place rows)) has cost = omega (arith, cost.1)

pub answered_now : (setting : Setting) (old new : PassView) (registry registry_now : List Wish) (at : ℕ) (seats are : List Seat) →
    (p : IsAskedAt setting old new registry registry_now at seats are) → HasAnswerNow p.was p.is
answered_now setting old new registry registry_now at seats are p = record {
  wish = p.asked.wish;
  next = p.asked.next;
  answer = p.asked.answer;
  has = p.asked.has;
  seat_is = p.asked.seat_is;
  steps = subst (λ (s : Seat). steps s ≤ steps p.was) (sym p.asked.seat_is)
      (no_step_back setting (length (wishes_for p.was.listed p.asked.wish registry)) old new p.was p.asked.answer p.asked.has p.cost);
}

pub asks_on : (setting : Setting) (old between new : PassView) (registry registry_now : List Wish) (at : ℕ) (were seats are : List Seat) →
    at < length seats → UpTo IsAnsweredNow at were seats →
    ArePaid setting old between were seats (at * (setting.plan.trees + 1 + length were)) →
    ((d : Seat) → AsksAt (get_or seats at d).turn.waits setting between new registry registry_now at seats are) →
    AreAsked setting old new (at + 1) were are
asks_on setting old between new registry registry_now at were seats are inside so_far paid asks =
    by_test (get_or seats at e).turn.waits refl (asks e)
  where
    e : Seat
    e = seat_there seats at inside

    more : at * (setting.plan.trees + 1 + length were) + (setting.plan.trees + 1 + length were)
        ≤ (at + 1) * (setting.plan.trees + 1 + length were)
    more = times_less at (at + 1) (setting.plan.trees + 1 + length were) (omega arith)

    left : (get_or seats at e).turn.waits ≡ false → UpTo IsAnsweredNow (at + 1) were seats
    left test = up_to_left IsAnsweredNow at were seats so_far (λ d less.
        let was_it : get_or were at d ≡ get_or seats at e = sym (so_far.rest at d (omega arith)) ∙ get_or_default seats at d e inside in
        let is_it : get_or seats at d ≡ get_or seats at e = get_or_default seats at d e inside in
        subst (λ (s : Seat). IsAnsweredNow s (get_or seats at d)) (sym was_it)
        (subst (λ (s : Seat). IsAnsweredNow (get_or seats at e) s) (sym is_it)
        (subst (λ (c : Bool). Answered c (get_or seats at e) (get_or seats at e)) (sym test) refl)))

    by_test : (b : Bool) → (get_or seats at e).turn.waits ≡ b → AsksAt b setting between new registry registry_now at seats are →
        AreAsked setting old new (at + 1) were are
    by_test true test p = record {
      each = subst (λ (ss : List Seat). UpTo IsAnsweredNow (at + 1) were ss) (sym p.put)
          (up_to_more IsAnsweredNow at were seats p.was p.is so_far inside (sym (p.at p.was))
          (subst (λ (s : Seat). IsAnsweredNow s p.is) (sym (p.at p.was))
          (subst (λ (c : Bool). Answered c p.was p.is) (sym (ap (λ (s : Seat). s.turn.waits) (sym (p.at e)) ∙ test))
          (answered_now setting between new registry registry_now at seats are p))));
      paid = subst (λ (ss : List Seat). ArePaid setting old new were ss ((at + 1) * (setting.plan.trees + 1 + length were))) (sym p.put)
          (omega (arith, paid, p.events, more, so_far.len, sum_set (work setting) seats at p.was p.is inside, ap (work setting) (p.at p.was)));
    }
    by_test false test p = record {
      each = subst (λ (ss : List Seat). UpTo IsAnsweredNow (at + 1) were ss) (sym p.2) (left test);
      paid = subst (λ (v : PassView). ArePaid setting old v were are ((at + 1) * (setting.plan.trees + 1 + length were))) (sym p.0)
          (subst (λ (ss : List Seat). ArePaid setting old between were ss ((at + 1) * (setting.plan.trees + 1 + length were))) (sym p.2)
          (omega (arith, paid, more)));
    }
