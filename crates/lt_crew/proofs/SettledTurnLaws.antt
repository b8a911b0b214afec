-- The caller's turn settles one where each waits or is over.
use Rattle.std.proofs.Common.{◌≡◌, ◌⊎◌, ℕ, suc, ◌<◌, ◌≤◌, List, [], ◌∷◌, Bool, true, false, if◌then◌else◌}
use Rattle.std.proofs.Common.{map, length, get_or, nat_cmp, refl, sym, ap, subst, ◌∙◌, arith, inl, inr}
use Rattle.std.specs.List.{AllByRecursion}
use Rattle.std.specs.List.Sorted.{IsStrictlySortedBy}
use Rattle.std.proofs.lemmas.Bool.{false≢true}
use Rattle.std.proofs.lemmas.List.{take_all}
use Rattle.lt_seq.specs.declared.event.Event.{Event}
use Rattle.lt_seq.specs.Table.{Setting}
use Rattle.lt_requests.specs.declared.wish.Wish.{Wish}
use Rattle.lt_runner.specs.TurnView.{Seat, Turn}
use Rattle.lt_runner.specs.Board.{turns_of}
use Rattle.lt_runner.specs.CrewCost.{sum_of}
use Rattle.lt_runner.specs.Listed.{IsSeated}
use Rattle.lt_runner.specs.Played.{IsOver, AllStand}
use Rattle.lt_runner.specs.Retries.{AllWaitersListed, AreHeldAgain}
use Rattle.lt_runner.specs.Serial.{game_at}
use Rattle.lt_runner.specs.Settles.{OwnersWait}
use Rattle.lt_runner.specs.Standing.{IsStanding, AllWaitOrAreOver}
use Rattle.lt_runner.specs.Steps.{IsInOrder}
use Rattle.lt_runner.specs.Work.{steps, some_left}
use Rattle.lt_runner.proofs.RetriesLaws.{retries_settle_one}
use Rattle.lt_runner.proofs.WaitingOwnLaws.{waiting_own_all}
use Rattle.lt_runner.proofs.WishLaws.{IsPlaced}
use Rattle.lt_crew.specs.Caller.{IsCrewOf, StaysCrew, IsNearer, is_refused}
use Rattle.lt_crew.specs.CallersTurn.{IsPlayedOn, PlayedOn}
use Rattle.lt_crew.specs.Settled.{SettlesOne}
use Rattle.lt_crew.specs.Workers.{EachPair}
use Rattle.lt_crew.proofs.ComesLaws.{crew_stands}
use Rattle.lt_crew.proofs.CrewRunLaws.{rounds_stand}
use Rattle.lt_crew.proofs.HeldAgainLaws.{SettlesSoFar, IsHeldSoFar, turns_long, placed_here}
use Rattle.lt_crew.proofs.NearerLaws.{steps_at}
use Rattle.lt_crew.proofs.StoppedLaws.{IsStopped, AreSettled, IsSettledSeat, seat_settled, settled_more}

-- All that wait have asked.
pub settles_all : (setting : Setting) (history now : List Event) (registry : List Wish) (at : ℕ) (were seats : List Seat) →
    IsCrewOf setting history registry were → 1 ≤ setting.plan.passes → length were ≤ at → SettlesSoFar setting at were seats history now →
    SettlesOne were seats
settles_all setting history now registry at were seats some passes all so_far over listed index d inside waits = by_case (so_far listed)
  where
    placed : IsPlaced setting (turns_of were) (get_or were index d).turn
    placed = placed_here setting history registry were index d some inside

    stand : AllStand true setting some.crew.searches some.lines history were
    stand = rounds_stand setting some.lines some.crew.searches history were some.crew.rounds

    owned : IsInOrder setting (map (λ t. t.txn) (turns_of were)) (game_at history (turns_of were) false)
        × OwnersWait setting (game_at history (turns_of were) false)
    owned = waiting_own_all setting some.crew.searches some.lines history were some.deeds
        (subst (IsStrictlySortedBy nat_cmp) stand.numbers some.crew.registered.sorted) stand over

    by_case : (sum_of steps seats < sum_of steps were) ⊎ IsHeldSoFar setting at were seats history now → sum_of steps seats < sum_of steps were
    by_case (inl less) = less
    by_case (inr held) =
        let whole = take_all at (map (λ (t : Turn). t.txn) (turns_of were)) (omega (arith, all, turns_long were)) in
        absurd (retries_settle_one setting (turns_of were) history now (get_or were index d).turn.txn passes owned.0 stand.legal owned.1
        placed.number (ap (λ (t : Turn). t.waits) placed.there ∙ waits)
        (subst (λ (ns : List ℕ). AreHeldAgain setting (turns_of were) ns history now) whole held.again))

-- The plays before it leave those that wait as they were, and those that are over are over still.

stopped_by : (seat : Seat) → (seat.turn.waits ≡ true) ⊎ IsOver seat → IsStopped seat
stopped_by seat (inl waits) = inl waits
stopped_by seat (inr over) = inr (steps_at seat true over.0 ∙ ap some_left over.1)

seat_played : (setting : Setting) (was is : Seat) → IsPlayedOn was is → (was.turn.waits ≡ true) ⊎ IsOver was → was.listed ≡ was.turn.waits →
    IsStanding setting is.turn → IsSeated is → IsSettledSeat was is
seat_played setting was is played over listed stands seated = by_test (is_refused was) refl played
  where
    near : is_refused was ≡ true → IsNearer was is → steps is ≤ steps was
    near test (inl p) = omega (arith, p.1)
    near test (inr none) = omega (arith, none)

    by_test : (b : Bool) → is_refused was ≡ b → PlayedOn b was is → IsSettledSeat was is
    by_test true test p =
        seat_settled setting was is (stopped_by was over) listed stands seated (near test p)
        (λ w. absurd (false≢true (sym (ap (λ (b : Bool). if b then false else was.busy) w) ∙ test)))
    by_test false test p =
        seat_settled setting was is (stopped_by was over) listed stands seated (omega (arith, ap steps p)) (λ w. p)

all_played : (setting : Setting) (were are : List Seat) → EachPair IsPlayedOn were are → AllWaitOrAreOver were → AllWaitersListed were →
    AllByRecursion (λ s. IsStanding setting s.turn) are → AllByRecursion IsSeated are → AreSettled were are
all_played setting [] [] pairs over listed stands seated =
    record { rest = tt; listed = tt; waits = λ index d inside w. absurd (omega (arith, inside)); back = omega arith }
all_played setting [] (n ∷ ns) pairs over listed stands seated = absurd (omega (arith, pairs.0))
all_played setting (o ∷ os) [] pairs over listed stands seated = absurd (omega (arith, pairs.0))
all_played setting (o ∷ os) (n ∷ ns) pairs over listed stands seated =
    settled_more o n os ns (seat_played setting o n (pairs.1 0 o (omega arith)) over.0 listed.0 stands.0 seated.0)
    (all_played setting os ns (omega (arith, pairs.0), λ i d inside. pairs.1 (suc i) d (omega (arith, inside))) over.1 listed.1 stands.1 seated.1)

pub turn_settles : (setting : Setting) (first mid : List Event) (registry : List Wish) (were between are : List Seat) →
    IsCrewOf setting first registry were → StaysCrew setting first mid were between → EachPair IsPlayedOn were between → SettlesOne between are →
    SettlesOne were are
turn_settles setting first mid registry were between are some stays played settles over listed index d inside waits =
    let crew = stays some.lines registry some.deeds some.crew in
    let rest = all_played setting were between played over listed (crew_stands setting some.lines mid registry between some.deeds crew)
    crew.registered.seated in
    let less = settles rest.rest rest.listed index d (omega (arith, inside, played.0)) (rest.waits index d inside waits) in
    omega (arith, less, rest.back)
