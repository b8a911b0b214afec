-- The asks of the caller's turn: as long as each was held again, they are the plain scheduler's retries.
use Rattle.std.proofs.Common.{◌≡◌, ◌⊎◌, ℕ, zero, suc, ◌+◌, ◌<◌, ◌≤◌, List, [], ◌∷◌, ◌++◌, Bool, true, false, Result, Ok, Err}
use Rattle.std.proofs.Common.{map, take, length, get_or, nat_cmp, refl, sym, ap, subst, ◌∙◌, arith, inl, inr}
use Rattle.std.specs.Prelude.{slice_set}
use Rattle.std.specs.List.{AllByRecursion}
use Rattle.std.specs.List.Sorted.{IsStrictlySortedBy}
use Rattle.std.proofs.lemmas.List.{take_more}
use Rattle.lt_ranges.specs.Numbers.{is_in}
use Rattle.lt_seq.specs.declared.event.Event.{Event}
use Rattle.lt_seq.specs.declared.fault.Fault.{Fault}
use Rattle.lt_seq.specs.declared.fault.Fault.TheVariants.{OutOfMemory, Busy, HistoryFull, OutOfLocks}
use Rattle.lt_seq.specs.Table.{Setting}
use Rattle.lt_seq.specs.Yard.{PassView, place_after, places_end}
use Rattle.lt_requests.specs.declared.wish.Wish.{Wish}
use Rattle.lt_requests.specs.declared.started.Started.{Started}
use Rattle.lt_requests.specs.declared.started.Started.TheVariants.{Granted as StartedGranted, Waits, Deadlock}
use Rattle.lt_requests.specs.Registered.{Ascend}
use Rattle.lt_requests.specs.Started.{IsStarted}
use Rattle.lt_runner.specs.TurnView.{Seat, Turn}
use Rattle.lt_runner.specs.Attempt.{bar_of}
use Rattle.lt_runner.specs.Board.{turns_of, seat_so, IsAnswered}
use Rattle.lt_runner.specs.CrewCost.{sum_of}
use Rattle.lt_runner.specs.Listed.{wishes_for, others_for}
use Rattle.lt_runner.specs.Retries.{AreHeldAgain, AllWaitersListed}
use Rattle.lt_runner.specs.Serial.{game_at, turn_of, is_waiting, wishes_in, retried}
use Rattle.lt_runner.specs.Standing.{IsStanding}
use Rattle.lt_runner.specs.StartsCost.{StartsCost}
use Rattle.lt_runner.specs.Steps.{IsInOrder, IsSteady}
use Rattle.lt_runner.specs.Work.{steps}
use Rattle.lt_runner.proofs.CrewCostLaws.{sum_set}
use Rattle.lt_runner.proofs.RetriesLaws.{retries_are_held, retries_go_on, listed_are_waiters, numbers_same}
use Rattle.lt_runner.proofs.WishLaws.{IsPlaced, all_placed}
use Rattle.lt_crew.specs.Caller.{IsAlone, IsCrewOf, AsksAt, IsAskedAt}
use Rattle.lt_crew.proofs.CallerLaws.{all_at, all_put, may_ask_now}
use Rattle.lt_crew.proofs.CallersTurnLaws.{seat_there, answered_now}
use Rattle.lt_crew.proofs.ComesLaws.{crew_stands}

-- Each that was asked so far was held again: no turn changed, and the events are those of the plain scheduler's retries.
pub record IsHeldSoFar (setting : Setting) (at : ℕ) (were seats : List Seat) (from now : List Event) : Type 0 where
  pub same : turns_of seats ≡ turns_of were
  pub listed : AllWaitersListed seats
  pub again : AreHeldAgain setting (turns_of were) (take at (map (λ t. t.txn) (turns_of were))) from now

-- so it is, or one was granted or ended
abbrev pub SettlesSoFar : Setting → ℕ → List Seat → List Seat → List Event → List Event → Type 0
SettlesSoFar setting at were seats from now =
    AllWaitersListed were → (sum_of steps seats < sum_of steps were) ⊎ IsHeldSoFar setting at were seats from now

pub none_asked : (setting : Setting) (were : List Seat) (from : List Event) → SettlesSoFar setting 0 were were from from
none_asked setting were from = λ listed. inr (record { same = refl; listed = listed; again = refl })

-- Seats and their turns.

turn_at : (seats : List Seat) (i : ℕ) (d : Seat) → i < length seats → get_or (map (λ t. t.txn) (turns_of seats)) i d.turn.txn ≡ (get_or seats i d).turn.txn
turn_at [] i d inside = absurd (omega (arith, inside))
turn_at (s ∷ ss) zero d inside = refl
turn_at (s ∷ ss) (suc i) d inside = turn_at ss i d (omega (arith, inside))

pub turns_long : (seats : List Seat) → length (map (λ t. t.txn) (turns_of seats)) ≡ length seats
turns_long [] = refl
turns_long (s ∷ ss) = ap suc (turns_long ss)

turns_put : (seats : List Seat) (i : ℕ) (d is : Seat) → i < length seats → is.turn ≡ (get_or seats i d).turn →
    turns_of (slice_set seats i is) ≡ turns_of seats
turns_put [] i d is inside same = refl
turns_put (s ∷ ss) zero d is inside same = ap (λ (t : Turn). t ∷ turns_of ss) same
turns_put (s ∷ ss) (suc i) d is inside same = ap (λ (ts : List Turn). s.turn ∷ ts) (turns_put ss i d is (omega (arith, inside)) same)

steps_same : (xs ys : List Seat) → turns_of xs ≡ turns_of ys → sum_of steps xs ≡ sum_of steps ys
steps_same [] [] same = refl
steps_same [] (y ∷ ys) same = cc
steps_same (x ∷ xs) [] same = cc
steps_same (x ∷ xs) (y ∷ ys) same =
    let first : x.turn ≡ y.turn = cc in
    let later : turns_of xs ≡ turns_of ys = cc in
    let here : steps x ≡ steps y = ap (λ (t : Turn). steps (record { turn = t; busy = false; listed = false })) first in
    omega (arith, here, steps_same xs ys later)

placed_at : (setting : Setting) (turns : List Turn) (seats : List Seat) (i : ℕ) (d : Seat) → i < length seats →
    AllByRecursion (IsPlaced setting turns) (turns_of seats) → IsPlaced setting turns (get_or seats i d).turn
placed_at setting turns [] i d inside all = absurd (omega (arith, inside))
placed_at setting turns (s ∷ ss) zero d inside all = all.0
placed_at setting turns (s ∷ ss) (suc i) d inside all = placed_at setting turns ss i d (omega (arith, inside)) all.1

all_steady : (setting : Setting) (seats : List Seat) → AllByRecursion (λ s. IsStanding setting s.turn) seats →
    AllByRecursion (IsSteady setting) (turns_of seats)
all_steady setting [] stand = tt
all_steady setting (s ∷ ss) stand = (stand.0.steady, all_steady setting ss stand.1)

pub crew_in_order : (setting : Setting) (history : List Event) (registry : List Wish) (seats : List Seat) → IsCrewOf setting history registry seats →
    IsInOrder setting (map (λ t. t.txn) (turns_of seats)) (game_at history (turns_of seats) false)
crew_in_order setting history registry seats some = record {
  sorted = subst (IsStrictlySortedBy nat_cmp) (sym (numbers_same seats)) some.crew.registered.sorted;
  numbers = refl;
  steady = all_steady setting seats (crew_stands setting some.lines history registry seats some.deeds some.crew);
}

-- a transaction is found by its number
pub placed_here : (setting : Setting) (history : List Event) (registry : List Wish) (seats : List Seat) (i : ℕ) (d : Seat) →
    IsCrewOf setting history registry seats → i < length seats → IsPlaced setting (turns_of seats) (get_or seats i d).turn
placed_here setting history registry seats i d some inside =
    placed_at setting (turns_of seats) seats i d inside
    (all_placed setting (turns_of seats) (crew_in_order setting history registry seats some).sorted)

-- One more asks.

module _ (setting : Setting) (old new : PassView) (registry registry_now : List Wish) (at : ℕ) (were seats are : List Seat) (from : List Event)
    (some : IsCrewOf setting old.front registry seats) (alone : IsAlone setting old) (inside : at < length seats) (wide : length seats ≡ length were)
    (room : place_after setting old.front + setting.plan.trees + 1 + length seats ≤ places_end) where
  abbrev here : Seat
  here = get_or seats at (seat_there seats at inside)

  placed : IsPlaced setting (turns_of seats) here.turn
  placed = placed_here setting old.front registry seats at (seat_there seats at inside) some inside

  -- the next number
  more_again : turns_of seats ≡ turns_of were → AreHeldAgain setting (turns_of were) (take at (map (λ t. t.txn) (turns_of were))) from old.front →
      (retried setting (game_at old.front (turns_of seats) false) here.turn.txn ≡ game_at new.front (turns_of seats) false)
      ⊎ ((is_waiting (turn_of setting here.turn.txn (turns_of seats)) ≡ false) × (new.front ≡ old.front)) →
      AreHeldAgain setting (turns_of were) (take (at + 1) (map (λ t. t.txn) (turns_of were))) from new.front
  more_again same again one =
      let d = seat_there seats at inside in
      let all = map (λ (t : Turn). t.txn) (turns_of were) in
      let next : get_or all at d.turn.txn ≡ here.turn.txn =
      ap (λ (ts : List Turn). get_or (map (λ (t : Turn). t.txn) ts) at d.turn.txn) (sym same) ∙ turn_at seats at d inside in
      let split : take (at + 1) all ≡ take at all ++ here.turn.txn ∷ [] =
      take_more all at d.turn.txn (omega (arith, inside, wide, turns_long were)) ∙ ap (λ (n : ℕ). take at all ++ n ∷ []) next in
      subst (λ (ns : List ℕ). AreHeldAgain setting (turns_of were) ns from new.front) (sym split)
      (retries_go_on setting (turns_of were) (take at all) here.turn.txn from old.front new.front again
      (subst (λ (ts : List Turn). (retried setting (game_at old.front ts false) here.turn.txn ≡ game_at new.front ts false)
      ⊎ ((is_waiting (turn_of setting here.turn.txn ts) ≡ false) × (new.front ≡ old.front))) same one))

  left_out : here.turn.waits ≡ false → new ≡ old → are ≡ seats → IsHeldSoFar setting at were seats from old.front →
      IsHeldSoFar setting (at + 1) were are from new.front
  left_out quiet still put held = record {
    same = ap turns_of put ∙ held.same;
    listed = subst AllWaitersListed (sym put) held.listed;
    again = more_again held.same held.again (inr (ap (λ (t : Turn). t.waits) placed.there ∙ quiet, ap (λ (p : PassView). p.front) still));
  }

  module _ (p : IsAskedAt setting old new registry registry_now at seats are) (waits : here.turn.waits ≡ true) where
    is_here : here ≡ p.was
    is_here = p.at (seat_there seats at inside)

    fewer : (k : ℕ) → sum_of steps seats ≤ k → steps p.is < steps p.was → sum_of steps are < k
    fewer k low less =
        let sums = sum_set steps seats at p.was p.is inside in
        omega (arith, low, less, sums, ap steps (p.at p.was), ap (sum_of steps) p.put)

    no_more : sum_of steps are ≤ sum_of steps seats
    no_more =
        let sums = sum_set steps seats at p.was p.is inside in
        let back = (answered_now setting old new registry registry_now at seats are p).steps in
        omega (arith, back, sums, ap steps (p.at p.was), ap (sum_of steps) p.put)

    held_again : (owners : List ℕ) → p.asked.answer ≡ Ok (Waits owners) → IsHeldSoFar setting at were seats from old.front →
        IsHeldSoFar setting (at + 1) were are from new.front
    held_again owners answer held = record {
      same = ap turns_of p.put ∙ turns_put seats at p.was p.is inside (turn_is ∙ ap (λ (s : Seat). s.turn) (sym (p.at p.was))) ∙ held.same;
      listed = subst AllWaitersListed (sym p.put)
          (all_put (λ s. s.listed ≡ s.turn.waits) seats at p.is held.listed (subst (λ (s : Seat). s.listed ≡ s.turn.waits) (sym is_so) refl));
      again = more_again held.same held.again (inl again);
    }
      where
        was_waits : p.was.turn.waits ≡ true
        was_waits = ap (λ (s : Seat). s.turn.waits) (sym is_here) ∙ waits

        was_listed : p.was.listed ≡ true
        was_listed = ap (λ (s : Seat). s.listed) (sym is_here)
            ∙ all_at (λ s. s.listed ≡ s.turn.waits) seats at (seat_there seats at inside) inside held.listed ∙ waits

        is_so : p.is ≡ record { turn = record p.was.turn { waits = true }; busy = false; listed = true }
        is_so = p.asked.seat_is ∙ ap (seat_so p.was.turn) answer

        turn_is : p.is.turn ≡ p.was.turn
        turn_is = ap (λ (s : Seat). s.turn) is_so
            ∙ ap (λ (w : Bool). (let t : Turn = record p.was.turn { waits = w } in t)) (sym was_waits)

        all : (registry ≡ wishes_in (turns_of seats)) × Ascend registry
        all = listed_are_waiters registry seats some.crew.registered held.listed

        own : wishes_for p.was.listed p.asked.wish registry ≡ registry
        own = ap (λ (b : Bool). wishes_for b p.asked.wish registry) was_listed

        few : place_after setting old.front + setting.plan.trees + 1 + length registry ≤ places_end
        few =
            let may = may_ask_now setting old registry seats at (seat_there seats at inside) some inside waits room in
            let listed : here.listed ≡ true = ap (λ (s : Seat). s.listed) is_here ∙ was_listed in
            omega (arith, may.places, ap (λ (b : Bool). length (wishes_for b may.wish registry)) listed)

        started : IsStarted setting (bar_of setting p.was.turn) p.asked.wish (others_for p.was.listed p.asked.wish registry)
            (wishes_for p.was.listed p.asked.wish registry) registry old new p.asked.left (Ok (Waits owners))
        started = subst (λ (r : Result Started Fault). IsStarted setting (bar_of setting p.was.turn) p.asked.wish
            (others_for p.was.listed p.asked.wish registry) (wishes_for p.was.listed p.asked.wish registry) registry old new p.asked.left r)
            answer p.asked.started

        turn_here : here.turn ≡ p.was.turn
        turn_here = ap (λ (s : Seat). s.turn) is_here

        again : retried setting (game_at old.front (turns_of seats) false) here.turn.txn ≡ game_at new.front (turns_of seats) false
        again = ap (λ (t : Turn). retried setting (game_at old.front (turns_of seats) false) t.txn) turn_here
            ∙ retries_are_held setting (bar_of setting p.was.turn) (turns_of seats) p.was.turn p.asked.wish
            (others_for p.was.listed p.asked.wish registry) (wishes_for p.was.listed p.asked.wish registry) registry p.asked.left old new owners
            (crew_in_order setting old.front registry seats some)
            (ap (λ (t : Turn). is_in t.txn (map (λ (u : Turn). u.txn) (turns_of seats))) (sym turn_here) ∙ placed.number)
            (ap (λ (t : Turn). turn_of setting t.txn (turns_of seats)) (sym turn_here) ∙ placed.there ∙ turn_here)
            was_waits p.asked.next (own ∙ all.0) (subst Ascend (sym own) all.1) refl
            (record {
              number = alone.number;
              all = alone.all;
              trees = alone.plan.trees;
              places = omega (arith, few, ap length own);
            }) started

    by_answer : (answer : Result Started Fault) → p.asked.answer ≡ answer → IsAnswered answer →
        StartsCost setting (length (wishes_for p.was.listed p.asked.wish registry)) old new p.was answer →
        IsHeldSoFar setting at were seats from old.front →
        (sum_of steps are < sum_of steps were) ⊎ IsHeldSoFar setting (at + 1) were are from new.front
    by_answer answer is has cost held = by_case answer is has cost
      where
        low : sum_of steps seats ≤ sum_of steps were
        low = omega (arith, steps_same seats were held.same)

        on : (r : Result Started Fault) → p.asked.answer ≡ r → steps (seat_so p.was.turn r) < steps p.was → sum_of steps are < sum_of steps were
        on r e less = fewer (sum_of steps were) low (omega (arith, less, ap steps (p.asked.seat_is ∙ ap (seat_so p.was.turn) e)))

        by_case : (r : Result Started Fault) → p.asked.answer ≡ r → IsAnswered r →
            StartsCost setting (length (wishes_for p.was.listed p.asked.wish registry)) old new p.was r →
            (sum_of steps are < sum_of steps were) ⊎ IsHeldSoFar setting (at + 1) were are from new.front
        by_case (Ok (StartedGranted place buffered)) e h c = inl (on (Ok (StartedGranted place buffered)) e c.1)
        by_case (Ok (Waits owners)) e h c = inr (held_again owners e held)
        by_case (Ok (Deadlock walk)) e h c = inl (on (Ok (Deadlock walk)) e c.1)
        by_case (Err OutOfMemory) e h c = absurd h
        by_case (Err (Busy row holder)) e h c = absurd h
        by_case (Err (HistoryFull place)) e h c = absurd h
        by_case (Err (OutOfLocks place rows)) e h c = inl (on (Err (OutOfLocks place rows)) e c.1)

    asked_on : (sum_of steps seats < sum_of steps were) ⊎ IsHeldSoFar setting at were seats from old.front →
        (sum_of steps are < sum_of steps were) ⊎ IsHeldSoFar setting (at + 1) were are from new.front
    asked_on (inl less) = inl (omega (arith, less, no_more))
    asked_on (inr held) = by_answer p.asked.answer refl p.asked.has p.cost held

  by_test : (b : Bool) → here.turn.waits ≡ b → AsksAt b setting old new registry registry_now at seats are →
      (sum_of steps seats < sum_of steps were) ⊎ IsHeldSoFar setting at were seats from old.front →
      (sum_of steps are < sum_of steps were) ⊎ IsHeldSoFar setting (at + 1) were are from new.front
  by_test true test p so_far = asked_on p test so_far
  by_test false test p (inl less) = inl (subst (λ (ss : List Seat). sum_of steps ss < sum_of steps were) (sym p.2) less)
  by_test false test p (inr held) = inr (left_out test p.0 p.2 held)

  pub settles_more : SettlesSoFar setting at were seats from old.front →
      ((d : Seat) → AsksAt (get_or seats at d).turn.waits setting old new registry registry_now at seats are) →
      SettlesSoFar setting (at + 1) were are from new.front
  settles_more so_far asks listed = by_test here.turn.waits refl (asks (seat_there seats at inside)) (so_far listed)
