-- What an ask of the caller's costs.
use Rattle.std.proofs.Common.{◌≡◌, ℕ, ◌+◌, ◌<◌, ◌≤◌, List, Bool, true, Result, Ok}
use Rattle.std.proofs.Common.{Err, ap, refl, sym, subst, ◌∙◌, arith, length, length-append, [], ◌∷◌}
use Rattle.std.proofs.Common.{get_or, slice_set}
use Rattle.std.proofs.lemmas.List.{length-map, get_or_default}
use Rattle.lt_seq.specs.declared.event.Receipt.{Receipt}
use Rattle.lt_seq.specs.declared.fault.Fault.{Fault}
use Rattle.lt_seq.specs.declared.fault.Fault.TheVariants.{OutOfMemory, Busy, HistoryFull, OutOfLocks}
use Rattle.lt_seq.specs.Questions.{events_of}
use Rattle.lt_seq.specs.Table.{Setting}
use Rattle.lt_seq.specs.Yard.{PassView, HasAll, place_after, places_end}
use Rattle.lt_requests.specs.declared.wish.Wish.{Wish}
use Rattle.lt_requests.specs.declared.started.Started.{Started}
use Rattle.lt_requests.specs.declared.started.Started.TheVariants.{Granted as StartedGranted, Waits, Deadlock}
use Rattle.lt_runner.specs.TurnView.{Seat}
use Rattle.lt_runner.specs.Attempt.{bar_of}
use Rattle.lt_runner.specs.Played.{Search, Stands}
use Rattle.lt_runner.specs.PlaysOn.{PlaysOn, IsFit}
use Rattle.lt_runner.specs.Standing.{IsStanding}
use Rattle.lt_runner.specs.StartsOn.{StartsOn}
use Rattle.lt_runner.specs.StartsCost.{StartsCost}
use Rattle.lt_runner.specs.Listed.{wishes_for, others_for, IsAskingAt}
use Rattle.lt_runner.specs.Board.{IsAnswered, seat_so}
use Rattle.lt_runner.specs.Work.{work}
use Rattle.lt_runner.proofs.RegisteredLaws.{seats_ask}
use Rattle.lt_runner.proofs.StandingLaws.{seats_stand, waiters_have_lines}
use Rattle.lt_runner.proofs.StartsCostLaws.{starts_cost}
use Rattle.lt_runner.proofs.StartsOnLaws.{starts_play_on}
use Rattle.lt_crew.specs.Caller.{IsAlone, IsCrewOf, HasAsked, IsAskedAt, AsksAt}
use Rattle.lt_crew.proofs.CallerLaws.{all_at}
use Rattle.lt_crew.proofs.CrewRunLaws.{rounds_stand}

-- one that plays alone makes the events of the history
front_paid : (setting : Setting) (found : List Search) (old new : PassView) (was is : Seat) (more : ℕ) → HasAll setting old →
    PlaysOn setting found old new was is → length new.mine + work setting is ≤ length old.mine + work setting was + more →
    length new.front + work setting is ≤ length old.front + work setting was + more
front_paid setting found old new was is more all plays paid =
    let mine = ap length plays.mine ∙ length-append old.mine plays.made in
    let front = ap length (plays.alone all) ∙ length-append old.front (events_of plays.made) in
    let same = length-map plays.made (λ (r : Receipt). r.event) in
    omega (arith, mine, front, same, paid)

abbrev IsPaid : Setting → PassView → PassView → Seat → ℕ → Result Started Fault → Type 0
IsPaid setting old new was more answer =
    length new.front + work setting (seat_so was.turn answer) ≤ length old.front + work setting was + (setting.plan.trees + 1 + more)

answer_paid : (setting : Setting) (wishes : List Wish) (old new : PassView) (was : Seat) (answer : Result Started Fault) → HasAll setting old →
    StartsOn setting wishes old new was answer → IsAnswered answer → StartsCost setting (length wishes) old new was answer →
    IsPaid setting old new was (length wishes) answer
answer_paid setting wishes old new was (Ok (StartedGranted place buffered)) all on has cost =
    front_paid setting [] old new was (seat_so was.turn (Ok (StartedGranted place buffered))) (setting.plan.trees + 1 + length wishes) all on cost.0
answer_paid setting wishes old new was (Ok (Waits owners)) all on has cost =
    let made : Search = record { txn = was.turn.txn; place = on.place; wishes = wishes } in
    front_paid setting (made ∷ []) old new was (seat_so was.turn (Ok (Waits owners))) (setting.plan.trees + 1 + length wishes) all on.plays cost.0
answer_paid setting wishes old new was (Ok (Deadlock walk)) all on has cost =
    let made : Search = record { txn = was.turn.txn; place = on.place; wishes = wishes } in
    front_paid setting (made ∷ []) old new was (seat_so was.turn (Ok (Deadlock walk))) (setting.plan.trees + 1 + length wishes) all on.plays cost.0
answer_paid setting wishes old new was (Err OutOfMemory) all on has cost = absurd has
answer_paid setting wishes old new was (Err (Busy row holder)) all on has cost = absurd has
answer_paid setting wishes old new was (Err (HistoryFull place)) all on has cost = absurd has
answer_paid setting wishes old new was (Err (OutOfLocks place rows)) all on has cost =
    front_paid setting [] old new was (seat_so was.turn (Err (OutOfLocks place rows))) (setting.plan.trees + 1 + length wishes) all on cost.0

asked_at : (setting : Setting) (old new : PassView) (registry registry_now : List Wish) (seats : List Seat) (index : ℕ) (d is : Seat) →
    IsAlone setting old → IsCrewOf setting old.front registry seats → index < length seats → (get_or seats index d).turn.waits ≡ true →
    place_after setting old.front + setting.plan.trees + 1 + length seats ≤ places_end →
    HasAsked setting old new registry registry_now (get_or seats index d) is →
    IsAskedAt setting old new registry registry_now index seats (slice_set seats index is)
asked_at setting old new registry registry_now seats index d is alone of_crew inside waits room asked = record {
  was = seat;
  is = is;
  at = λ e. get_or_default seats index e d inside;
  put = refl;
  asked = asked;
  cost = cost;
  events = subst (λ (s : Seat). length new.front + work setting s ≤ length old.front + work setting seat
      + (setting.plan.trees + 1 + length seats)) (sym asked.seat_is)
      (let paid = answer_paid setting wishes old new seat asked.answer alone.all on asked.has cost in omega (arith, paid, asking.few));
}
  where
    seat : Seat
    seat = get_or seats index d

    wishes : List Wish
    wishes = wishes_for seat.listed asked.wish registry

    standing : IsStanding setting seat.turn
    standing = seats_stand setting of_crew.crew.searches of_crew.lines old.front seat of_crew.deeds
        (all_at (Stands true setting of_crew.crew.searches of_crew.lines old.front) seats index d inside
        (rounds_stand setting of_crew.lines of_crew.crew.searches old.front seats of_crew.crew.rounds).stand)

    asking : IsAskingAt setting registry seats seat asked.wish wishes
    asking = seats_ask setting registry seats index seat d asked.wish seat.listed of_crew.crew.registered of_crew.crew.fit inside refl refl asked.next

    cost : StartsCost setting (length wishes) old new seat asked.answer
    cost = starts_cost setting (bar_of setting seat.turn) seat asked.wish (others_for seat.listed asked.wish registry) wishes registry old new
        asked.left asked.answer refl alone.sound asking.own (all_at (IsFit setting) seats index d inside of_crew.crew.fit) waits
        (waiters_have_lines setting seat.turn standing waits).1 asked.started

    on : StartsOn setting wishes old new seat asked.answer
    on = starts_play_on setting (bar_of setting seat.turn) seat asked.wish (others_for seat.listed asked.wish registry) wishes registry old new
        asked.left asked.answer refl
        (record { all = alone.all; trees = alone.plan.trees; places = omega (arith, asking.few, room) })
        alone.sound asking.own asked.started

pub asks_at : (setting : Setting) (old new : PassView) (registry registry_now : List Wish) (seats : List Seat) (index : ℕ) (d e is : Seat) →
    IsAlone setting old → IsCrewOf setting old.front registry seats → index < length seats → (get_or seats index d).turn.waits ≡ true →
    place_after setting old.front + setting.plan.trees + 1 + length seats ≤ places_end →
    HasAsked setting old new registry registry_now (get_or seats index d) is →
    AsksAt (get_or seats index e).turn.waits setting old new registry registry_now index seats (slice_set seats index is)
asks_at setting old new registry registry_now seats index d e is alone of_crew inside waits room asked =
    let here = asked_at setting old new registry registry_now seats index d is alone of_crew inside waits room asked in
    let waits_here : (get_or seats index e).turn.waits ≡ true = ap (λ (s : Seat). s.turn.waits) (get_or_default seats index e d inside) ∙ waits in
    subst (λ (b : Bool). AsksAt b setting old new registry registry_now index seats (slice_set seats index is)) (sym waits_here) here
