-- Moves of the caller, one transaction at a time.
use Rattle.std.proofs.Common.{◌≡◌, ◌≢◌, ℕ, zero, suc, ◌<◌, List, [], ◌∷◌, ◌++◌, true, false}
use Rattle.std.proofs.Common.{if◌then◌else◌, IsTrue, None, Result, Ok, Err, nat_cmp, Bool, is_some, ◌+◌, ◌≤◌, Some}
use Rattle.std.proofs.Common.{length, get_or, slice_set, refl, sym, ap, subst, ◌∙◌, arith}
use Rattle.std.specs.List.{AllByRecursion, cons_option}
use Rattle.std.specs.List.Sorted.{IsStrictlySortedBy}
use Rattle.std.proofs.lemmas.List.{get_or-map, length-map, get_or_default}
use Rattle.std.proofs.lemmas.Map.Keys.{below_from_sorted}
use Rattle.std.proofs.lemmas.Bool.{false≢true}
use Rattle.lt_ranges.specs.Numbers.{is_in}
use Rattle.lt_seq.specs.declared.event.Event.{Event}
use Rattle.lt_seq.specs.declared.fault.Fault.{Fault}
use Rattle.lt_seq.specs.declared.fault.Fault.TheVariants.{OutOfMemory, Busy, HistoryFull, OutOfLocks}
use Rattle.lt_seq.specs.Table.{Setting}
use Rattle.lt_seq.specs.Yard.{PassView, place_after, places_end}
use Rattle.lt_trace.specs.declared.line.Line.{Line}
use Rattle.lt_trace.specs.Grammar.{txns_of}
use Rattle.lt_requests.specs.declared.wish.Wish.{Wish}
use Rattle.lt_requests.specs.declared.started.Started.{Started}
use Rattle.lt_requests.specs.declared.started.Started.TheVariants.{Granted as StartedGranted, Waits, Deadlock}
use Rattle.lt_runner.specs.TurnView.{Turn, Seat}
use Rattle.lt_runner.specs.Plays.{next_wish, has_last}
use Rattle.lt_runner.specs.Played.{Search, Stands, AllStand}
use Rattle.lt_runner.specs.PlaysOn.{PlaysOn, IsFit}
use Rattle.lt_runner.specs.Standing.{AreFitDeeds, IsStanding}
use Rattle.lt_runner.specs.Work.{Spends}
use Rattle.lt_runner.specs.StartsOn.{SearchesOn, StartsOn}
use Rattle.lt_runner.specs.Listed.{listed_in, IsSeated, IsListedNow, wishes_for, others_for, IsAskingAt}
use Rattle.lt_runner.specs.Board.{IsAnswered, seat_so}
use Rattle.lt_runner.proofs.ChoiceLaws.{on_false}
use Rattle.lt_runner.proofs.StandingLaws.{seats_stand, waiters_have_lines}
use Rattle.lt_runner.proofs.StartsOnLaws.{starts_play_on}
use Rattle.lt_runner.proofs.RegisteredLaws.{seats_ask, registries_stay, seats_stay_fit}
use Rattle.lt_runner.specs.Attempt.{bar_of}
use Rattle.lt_runner.proofs.LockMoveLaws.{has_lock}
use Rattle.lt_crew.specs.Crew.{numbers_in, AreDistinct, only}
use Rattle.lt_crew.specs.Rounds.{AreRounds, worked, searched, AreOfTrace}
use Rattle.lt_crew.specs.Caller.{IsAlone, CallerPlaysOn, CallerAsks, IsSomeCrew, MayPlay, StaysCrew, IsCrew, IsCrewOf, MayAskNow, HasAsked, AsksStay}
use Rattle.lt_crew.proofs.OwnLaws.{is_in_numbers}
use Rattle.lt_crew.proofs.MovedLaws.{only_there, caller_moves_one}
use Rattle.lt_crew.proofs.StandLaws.{caller_round}
use Rattle.lt_crew.proofs.CrewRunLaws.{rounds_stand}

-- Seats.

pub all_at : (P : Seat → Type 0) (seats : List Seat) (i : ℕ) (d : Seat) → i < length seats → AllByRecursion P seats → P (get_or seats i d)
all_at P [] i d inside all = absurd (omega arith)
all_at P (s ∷ ss) zero d inside all = all.0
all_at P (s ∷ ss) (suc i) d inside all = all_at P ss i d (omega arith) all.1

pub all_put : (P : Seat → Type 0) (seats : List Seat) (i : ℕ) (is : Seat) → AllByRecursion P seats → P is → AllByRecursion P (slice_set seats i is)
all_put P [] i is all one = tt
all_put P (s ∷ ss) zero is all one = (one, all.1)
all_put P (s ∷ ss) (suc i) is all one = (all.0, all_put P ss i is all.1 one)

numbers_put : (seats : List Seat) (i : ℕ) (d is : Seat) → i < length seats → is.turn.txn ≡ (get_or seats i d).turn.txn →
    numbers_in (slice_set seats i is) ≡ numbers_in seats
numbers_put [] i d is inside same = refl
numbers_put (s ∷ ss) zero d is inside same = ap (λ (n : ℕ). n ∷ numbers_in ss) same
numbers_put (s ∷ ss) (suc i) d is inside same = ap (λ (ns : List ℕ). s.turn.txn ∷ ns) (numbers_put ss i d is (omega arith) same)

get_put : (seats : List Seat) (i : ℕ) (d is : Seat) → i < length seats → get_or (slice_set seats i is) i d ≡ is
get_put [] i d is inside = absurd (omega arith)
get_put (s ∷ ss) zero d is inside = refl
get_put (s ∷ ss) (suc i) d is inside = get_put ss i d is (omega arith)

length_put : (seats : List Seat) (i : ℕ) (is : Seat) → length (slice_set seats i is) ≡ length seats
length_put [] i is = refl
length_put (s ∷ ss) zero is = refl
length_put (s ∷ ss) (suc i) is = ap suc (length_put ss i is)

-- one that is not registered, before and after, has no wish in the registry
listed_put : (seats : List Seat) (i : ℕ) (was is : Seat) → i < length seats → was ≡ get_or seats i was → was.listed ≡ false → is.listed ≡ false →
    listed_in (slice_set seats i is) ≡ listed_in seats
listed_put [] i was is inside at old new = refl
listed_put (s ∷ ss) zero was is inside at old new =
    ap (λ o. cons_option o (listed_in ss))
    (on_false is.listed (next_wish is.turn.txn is.turn.lines) None new
    ∙ sym (on_false s.listed (next_wish s.turn.txn s.turn.lines) None (ap (λ (t : Seat). t.listed) (sym at) ∙ old)))
listed_put (s ∷ ss) (suc i) was is inside at old new =
    ap (cons_option (if s.listed then next_wish s.turn.txn s.turn.lines else None)) (listed_put ss i was is (omega arith) at old new)

number_at : (seats : List Seat) (i : ℕ) (d : Seat) → i < length seats → get_or (numbers_in seats) i d.turn.txn ≡ (get_or seats i d).turn.txn
number_at seats i d inside = get_or-map (λ (s : Seat). s.turn.txn) seats i d d.turn.txn inside

pub sorted_distinct : (seats : List Seat) → IsStrictlySortedBy nat_cmp (numbers_in seats) → AreDistinct seats
sorted_distinct seats sorted j k d in_j in_k same =
    let wide = length-map seats (λ (s : Seat). s.turn.txn) in
    let at_j = number_at seats j d in_j in
    let at_k = number_at seats k d in_k in
    let up : j < k → get_or (numbers_in seats) j d.turn.txn < get_or (numbers_in seats) k d.turn.txn =
    λ less. below_from_sorted (numbers_in seats) j k d.turn.txn sorted less (omega (arith, wide, in_k)) in
    let down : k < j → get_or (numbers_in seats) k d.turn.txn < get_or (numbers_in seats) j d.turn.txn =
    λ less. below_from_sorted (numbers_in seats) k j d.turn.txn sorted less (omega (arith, wide, in_j)) in
    grind (arith, up, down, at_j, at_k, same)

-- Rounds of one.

of_trace : (setting : Setting) (lines : List Line) (searches : List Search) (history : List Event) (seats : List Seat) (index : ℕ) (was : Seat) →
    AllStand true setting searches lines history seats → index < length seats → was ≡ get_or seats index was → AreOfTrace lines (only was)
of_trace setting lines searches history seats index was stand inside at pass txn there =
    subst (λ (n : ℕ). IsTrue (is_in n (txns_of lines))) (sym (only_there was pass txn there ∙ ap (λ (s : Seat). s.turn.txn) at))
    (subst (λ (ns : List ℕ). IsTrue (is_in (get_or seats index was).turn.txn ns)) stand.numbers (is_in_numbers seats index was inside))

play_rounds : (setting : Setting) (lines : List Line) (searches : List Search) (seats : List Seat) (index : ℕ) (was is : Seat) (old new : PassView) →
    IsAlone setting old → IsStrictlySortedBy nat_cmp (numbers_in seats) → index < length seats → was ≡ get_or seats index was →
    AreRounds setting lines searches old.front seats → PlaysOn setting [] old new was is →
    AreRounds setting lines searches new.front (slice_set seats index is)
play_rounds setting lines searches seats index was is old new alone sorted inside at rounds plays =
    worked (only was) (only is) rounds (caller_round setting [] old new was is alone.number alone.sound alone.all plays)
    (caller_moves_one setting seats index was is alone.plan.passes (sorted_distinct seats sorted) inside at)
    (of_trace setting lines searches old.front seats index was (rounds_stand setting lines searches old.front seats rounds) inside at)

search_rounds : (setting : Setting) (lines : List Line) (searches : List Search) (seats : List Seat) (index : ℕ) (was is : Seat)
    (wishes : List Wish) (old new : PassView) →
    IsAlone setting old → IsStrictlySortedBy nat_cmp (numbers_in seats) → index < length seats → was ≡ get_or seats index was →
    AllByRecursion (λ other. other.turn.txn ≢ was.turn.txn → IsListedNow wishes other) seats →
    AreRounds setting lines searches old.front seats → (on : SearchesOn setting wishes old new was is) →
    AreRounds setting lines (searches ++ record { txn = was.turn.txn; place = on.place; wishes = wishes } ∷ []) new.front (slice_set seats index is)
search_rounds setting lines searches seats index was is wishes old new alone sorted inside at others rounds on =
    let made : Search = record { txn = was.turn.txn; place = on.place; wishes = wishes } in
    searched was is made rounds (caller_round setting (made ∷ []) old new was is alone.number alone.sound alone.all on.plays)
    (caller_moves_one setting seats index was is alone.plan.passes (sorted_distinct seats sorted) inside at)
    (of_trace setting lines searches old.front seats index was (rounds_stand setting lines searches old.front seats rounds) inside at)
    (record { txn = refl; behind = on.late; inside = on.inside; others = others })

-- A play.

seated_behind : (setting : Setting) (lines : List Line) (searches : List Search) (history : List Event) (seats : List Seat) (index : ℕ) (is : Seat) →
    AreFitDeeds setting lines → index < length seats → AreRounds setting lines searches history (slice_set seats index is) → is.listed ≡ false →
    IsSeated is
seated_behind setting lines searches history seats index is deeds inside rounds free = record {
  lock = λ waits. (waiters_have_lines setting is.turn (seats_stand setting searches lines history is deeds here) waits).0;
  waits = λ e. absurd (false≢true (sym free ∙ e));
}
  where
    here : Stands true setting searches lines history is
    here = subst (Stands true setting searches lines history) (get_put seats index is is inside)
        (all_at (Stands true setting searches lines history) (slice_set seats index is) index is (omega (arith, length_put seats index is, inside))
        (rounds_stand setting lines searches history (slice_set seats index is) rounds).stand)

pub caller_plays_on : CallerPlaysOn
caller_plays_on setting lines registry seats index was is old new alone deeds inside at old_free new_free fit plays crew = record {
  searches = crew.searches;
  rounds = rounds;
  registered = record {
    sorted = subst (IsStrictlySortedBy nat_cmp) (sym (numbers_put seats index was is inside (plays.txn ∙ ap (λ (s : Seat). s.turn.txn) at)))
        crew.registered.sorted;
    seated = all_put IsSeated seats index is crew.registered.seated
        (seated_behind setting lines crew.searches new.front seats index is deeds inside rounds new_free);
    all = crew.registered.all ∙ sym (listed_put seats index was is inside at old_free new_free);
  };
  fit = all_put (IsFit setting) seats index is crew.fit fit;
}
  where
    rounds : AreRounds setting lines crew.searches new.front (slice_set seats index is)
    rounds = play_rounds setting lines crew.searches seats index was is old new alone crew.registered.sorted inside at crew.rounds plays

-- An answer.

record IsBehind (setting : Setting) (lines : List Line) (history : List Event) (seats : List Seat) : Type 0 where
  searches : List Search
  rounds : AreRounds setting lines searches history seats

answer_rounds : (setting : Setting) (lines : List Line) (searches : List Search) (seats : List Seat) (index : ℕ) (was : Seat)
    (wishes : List Wish) (old new : PassView) (result : Result Started Fault) →
    IsAlone setting old → IsStrictlySortedBy nat_cmp (numbers_in seats) → index < length seats → was ≡ get_or seats index was →
    AllByRecursion (λ other. other.turn.txn ≢ was.turn.txn → IsListedNow wishes other) seats →
    AreRounds setting lines searches old.front seats → StartsOn setting wishes old new was result → IsAnswered result →
    IsBehind setting lines new.front (slice_set seats index (seat_so was.turn result))
answer_rounds setting lines searches seats index was wishes old new (Ok (StartedGranted place buffered)) alone sorted inside at others rounds on has =
    record {
      searches = searches;
      rounds = play_rounds setting lines searches seats index was (seat_so was.turn (Ok (StartedGranted place buffered))) old new alone sorted
          inside at rounds on;
    }
answer_rounds setting lines searches seats index was wishes old new (Ok (Waits owners)) alone sorted inside at others rounds on has = record {
  searches = searches ++ record { txn = was.turn.txn; place = on.place; wishes = wishes } ∷ [];
  rounds = search_rounds setting lines searches seats index was (seat_so was.turn (Ok (Waits owners))) wishes old new alone sorted inside at others
      rounds on;
}
answer_rounds setting lines searches seats index was wishes old new (Ok (Deadlock walk)) alone sorted inside at others rounds on has = record {
  searches = searches ++ record { txn = was.turn.txn; place = on.place; wishes = wishes } ∷ [];
  rounds = search_rounds setting lines searches seats index was (seat_so was.turn (Ok (Deadlock walk))) wishes old new alone sorted inside at others
      rounds on;
}
answer_rounds setting lines searches seats index was wishes old new (Err OutOfMemory) alone sorted inside at others rounds on has = absurd has
answer_rounds setting lines searches seats index was wishes old new (Err (Busy row holder)) alone sorted inside at others rounds on has = absurd has
answer_rounds setting lines searches seats index was wishes old new (Err (HistoryFull place)) alone sorted inside at others rounds on has = absurd has
answer_rounds setting lines searches seats index was wishes old new (Err (OutOfLocks place rows)) alone sorted inside at others rounds on has =
    record {
      searches = searches;
      rounds = play_rounds setting lines searches seats index was (seat_so was.turn (Err (OutOfLocks place rows))) old new alone sorted
          inside at rounds on;
    }

pub caller_asks : CallerAsks
caller_asks setting lines bar registry seats index seat wish listed old new left result alone same inside at is_listed next room started has crew =
    record {
      searches = behind.searches;
      rounds = behind.rounds;
      registered = registries_stay setting bar registry seats index seat seat wish listed old new left result crew.registered inside (sym at)
          is_listed next started has;
      fit = all_put (IsFit setting) seats index (seat_so seat.turn result) crew.fit
          (seats_stay_fit setting seat wish result
          (subst (IsFit setting) (sym at) (all_at (IsFit setting) seats index seat inside crew.fit)) next has);
    }
  where
    asking : IsAskingAt setting registry seats seat wish (wishes_for listed wish registry)
    asking = seats_ask setting registry seats index seat seat wish listed crew.registered crew.fit inside (sym at) is_listed next

    on : StartsOn setting (wishes_for listed wish registry) old new seat result
    on = starts_play_on setting bar seat wish (others_for listed wish registry) (wishes_for listed wish registry) registry old new left result same
        (record { all = alone.all; trees = alone.plan.trees; places = omega (arith, asking.few, room) })
        alone.sound asking.own started

    behind : IsBehind setting lines new.front (slice_set seats index (seat_so seat.turn result))
    behind = answer_rounds setting lines crew.searches seats index seat (wishes_for listed wish registry) old new result alone crew.registered.sorted
        inside at asking.others crew.rounds on has

-- One that does not wait.

not_listed : (seat : Seat) → IsSeated seat → seat.turn.waits ≡ false → seat.listed ≡ false
not_listed seat seated goes = by_test seat.listed refl
  where
    by_test : (b : Bool) → seat.listed ≡ b → seat.listed ≡ false
    by_test true e = absurd (false≢true (sym goes ∙ seated.waits e))
    by_test false e = e

lines_left : (lines : List Line) → has_last lines ≡ true → lines ≢ []
lines_left lines last none = false≢true (sym (ap has_last none) ∙ last)

ended_not : (turn : Turn) → turn.outcome ≡ None → is_some turn.outcome ≡ false
ended_not turn none = ap is_some none

pub may_play : (setting : Setting) (pass : PassView) (seats : List Seat) (index : ℕ) (d : Seat) → IsSomeCrew setting pass.front seats →
    index < length seats → (get_or seats index d).turn.waits ≡ false →
    place_after setting pass.front + setting.plan.trees + length (get_or seats index d).turn.releases < places_end →
    MayPlay setting pass (get_or seats index d)
may_play setting pass seats index d some inside goes places = record {
  fit = all_at (IsFit setting) seats index d inside some.crew.fit;
  goes = goes;
  left = λ none. lines_left (get_or seats index d).turn.lines (standing.last (ended_not (get_or seats index d).turn none));
  places = places;
}
  where
    standing : IsStanding setting (get_or seats index d).turn
    standing = seats_stand setting some.crew.searches some.lines pass.front (get_or seats index d) some.deeds
        (all_at (Stands true setting some.crew.searches some.lines pass.front) seats index d inside
        (rounds_stand setting some.lines some.crew.searches pass.front seats some.crew.rounds).stand)

pub stays_by_play : (setting : Setting) (seats : List Seat) (index : ℕ) (d is : Seat) (old new : PassView) → IsAlone setting old →
    index < length seats → (get_or seats index d).turn.waits ≡ false → IsFit setting is → PlaysOn setting [] old new (get_or seats index d) is →
    Spends setting old new (get_or seats index d) is → StaysCrew setting old.front new.front seats (slice_set seats index is)
stays_by_play setting seats index d is old new alone inside goes fit plays spends lines registry deeds crew =
    let was = get_or seats index d in
    let free = not_listed was (all_at IsSeated seats index d inside crew.registered.seated) goes in
    caller_plays_on setting lines registry seats index was is old new alone deeds inside (get_or_default seats index d was inside) free
    (spends.listed free) fit plays crew

-- One that waits.

pub may_ask_now : (setting : Setting) (pass : PassView) (registry : List Wish) (seats : List Seat) (index : ℕ) (d : Seat) →
    IsCrewOf setting pass.front registry seats → index < length seats → (get_or seats index d).turn.waits ≡ true →
    place_after setting pass.front + setting.plan.trees + 1 + length seats ≤ places_end →
    MayAskNow setting pass registry (get_or seats index d)
may_ask_now setting pass registry seats index d of_crew inside waits room = record {
  wish = wish;
  next = next;
  number = (has_lock seat.turn.txn wish seat.turn.lines next).own;
  fit = all_at (IsFit setting) seats index d inside of_crew.crew.fit;
  registered = asking.registered;
  among = asking.own;
  may_own = asking.may_own;
  may = asking.may;
  places = omega (arith, asking.few, room);
}
  where
    seat : Seat
    seat = get_or seats index d

    standing : IsStanding setting seat.turn
    standing = seats_stand setting of_crew.crew.searches of_crew.lines pass.front seat of_crew.deeds
        (all_at (Stands true setting of_crew.crew.searches of_crew.lines pass.front) seats index d inside
        (rounds_stand setting of_crew.lines of_crew.crew.searches pass.front seats of_crew.crew.rounds).stand)

    wish : Wish
    wish = (waiters_have_lines setting seat.turn standing waits).2.0

    next : next_wish seat.turn.txn seat.turn.lines ≡ Some wish
    next = (waiters_have_lines setting seat.turn standing waits).2.1

    asking : IsAskingAt setting registry seats seat wish (wishes_for seat.listed wish registry)
    asking = seats_ask setting registry seats index seat d wish seat.listed of_crew.crew.registered of_crew.crew.fit inside refl refl next

pub stays_by_ask : (setting : Setting) (registry registry_now : List Wish) (seats : List Seat) (index : ℕ) (d is : Seat) (old new : PassView) →
    IsAlone setting old → index < length seats → place_after setting old.front + setting.plan.trees + 1 + length seats ≤ places_end →
    HasAsked setting old new registry registry_now (get_or seats index d) is →
    AsksStay setting old.front new.front registry registry_now seats (slice_set seats index is)
stays_by_ask setting registry registry_now seats index d is old new alone inside room asked lines deeds crew =
    let was = get_or seats index d in
    let stays = caller_asks setting lines (bar_of setting was.turn) registry seats index was asked.wish was.listed old new asked.left asked.answer
    alone refl inside (get_or_default seats index d was inside) refl asked.next room asked.started asked.has crew in
    subst (λ (s : Seat). IsCrew setting lines new.front registry_now (slice_set seats index s)) (sym asked.seat_is)
    (subst (λ (ws : List Wish). IsCrew setting lines new.front ws (slice_set seats index (seat_so was.turn asked.answer))) (sym asked.registry_is)
    stays)
