-- What a crew's caller has of the transactions between two of its moves, and what a move of its own makes of them.
use Rattle.std.specs.Prelude.{◌≡◌, ◌≢◌, ◌⊎◌, ℕ, ◌+◌, ◌<◌, ◌≤◌, List, []}
use Rattle.std.specs.Prelude.{length, slice_index_or, slice_set, None, Some, true, false, Bool, Result, if◌then◌else◌}
use Rattle.std.specs.List.{AllByRecursion}
use Rattle.lt_seq.specs.declared.event.Event.{Event}
use Rattle.lt_seq.specs.declared.fault.Fault.{Fault}
use Rattle.lt_seq.specs.Table.{Setting}
use Rattle.lt_seq.specs.Yard.{PassView, HasAll, IsPlan, IsSound, place_after, places_end}
use Rattle.lt_trace.specs.declared.line.Line.{Line}
use Rattle.lt_requests.specs.declared.wish.Wish.{Wish}
use Rattle.lt_requests.specs.declared.started.Started.{Started}
use Rattle.lt_requests.specs.Registered.{MayAsk, may_ask, is_registered}
use Rattle.lt_requests.specs.Started.{IsStarted}
use Rattle.lt_runner.specs.TurnView.{Seat}
use Rattle.lt_runner.specs.Attempt.{bar_of}
use Rattle.lt_runner.specs.Plays.{next_wish}
use Rattle.lt_runner.specs.Played.{Search}
use Rattle.lt_runner.specs.PlaysOn.{PlaysOn, IsFit}
use Rattle.lt_runner.specs.Work.{work, steps}
use Rattle.lt_runner.specs.StartsCost.{StartsCost}
use Rattle.lt_runner.specs.StartsOn.{IsAmongWishes}
use Rattle.lt_runner.specs.Standing.{AreFitDeeds}
use Rattle.lt_runner.specs.Listed.{IsRegistryOf, wishes_for, others_for}
use Rattle.lt_runner.specs.Board.{IsAnswered, seat_so, registry_so}
use Rattle.lt_crew.specs.Rounds.{AreRounds}

-- the caller's pass while the workers rest: it has number 0 and all the rights
pub record IsAlone (setting : Setting) (pass : PassView) : Type 0 where
  pub number : pass.number ≡ 0
  pub plan : IsPlan setting.plan
  pub all : HasAll setting pass
  pub sound : IsSound setting pass

-- Rounds have led here from the opening. Each transaction may be played on, and the registry has the wishes of exactly those that are
-- registered.
pub record IsCrew (setting : Setting) (lines : List Line) (history : List Event) (registry : List Wish) (seats : List Seat) : Type 0 where
  pub searches : List Search
  pub rounds : AreRounds setting lines searches history seats
  pub registered : IsRegistryOf registry seats
  pub fit : AllByRecursion (IsFit setting) seats

-- One that is not registered is played on, and is not registered then: it is so again.
abbrev pub CallerPlaysOn : Type 0
CallerPlaysOn =
    (setting : Setting) (lines : List Line) (registry : List Wish) (seats : List Seat) (index : ℕ) (was is : Seat) (old new : PassView)
    → IsAlone setting old → AreFitDeeds setting lines → index < length seats → was ≡ slice_index_or seats index was
    → was.listed ≡ false → is.listed ≡ false → IsFit setting is → PlaysOn setting [] old new was is
    → IsCrew setting lines old.front registry seats → IsCrew setting lines new.front registry (slice_set seats index is)

-- A start of one that is not registered, or a retry of one that is, was answered: it is so again, where one that is out of locks is
-- forgotten. A search is among the rounds then.
abbrev pub CallerAsks : Type 0
CallerAsks =
    (setting : Setting) (lines : List Line) (bar : ℕ) (registry : List Wish) (seats : List Seat) (index : ℕ) (seat : Seat) (wish : Wish)
    (listed : Bool) (old new : PassView) (left : List Wish) (result : Result Started Fault)
    → IsAlone setting old → bar ≡ bar_of setting seat.turn → index < length seats → seat ≡ slice_index_or seats index seat
    → seat.listed ≡ listed → next_wish seat.turn.txn seat.turn.lines ≡ Some wish
    → place_after setting old.front + setting.plan.trees + 1 + length seats ≤ places_end
    → IsStarted setting bar wish (others_for listed wish registry) (wishes_for listed wish registry) registry old new left result
    → IsAnswered result → IsCrew setting lines old.front registry seats
    → IsCrew setting lines new.front (registry_so wish.txn left result) (slice_set seats index (seat_so seat.turn result))

-- a play by the caller is a step on, and no call was refused, or no step is left
abbrev pub IsNearer : Seat → Seat → Type 0
IsNearer was is = ((is.busy ≡ false) × (steps is < steps was)) ⊎ (steps is ≡ 0)

-- The caller may play it on: it does not wait, and there are places for what it may do.
pub record MayPlay (setting : Setting) (pass : PassView) (seat : Seat) : Type 0 where
  pub fit : IsFit setting seat
  pub goes : seat.turn.waits ≡ false
  pub left : seat.turn.outcome ≡ None → seat.turn.lines ≢ []
  pub places : place_after setting pass.front + setting.plan.trees + length seat.turn.releases < places_end

-- One that waits may ask: it is registered exactly where it says so, and there are places for its ask and its search.
pub record MayAskNow (setting : Setting) (pass : PassView) (registry : List Wish) (seat : Seat) : Type 0 where
  pub wish : Wish
  pub next : next_wish seat.turn.txn seat.turn.lines ≡ Some wish
  pub number : wish.txn ≡ seat.turn.txn
  pub fit : IsFit setting seat
  pub registered : is_registered wish.txn registry ≡ seat.listed
  pub among : IsAmongWishes seat wish (wishes_for seat.listed wish registry)
  pub may_own : may_ask setting.plan.trees wish ≡ true
  pub may : MayAsk setting.plan.trees registry
  pub places : place_after setting pass.front + setting.plan.trees + 1 + length (wishes_for seat.listed wish registry) ≤ places_end

-- It asked, was answered, and is what the answer made of it, as is the registry.
pub record HasAsked (setting : Setting) (old new : PassView) (registry registry_now : List Wish) (was is : Seat) : Type 0 where
  pub wish : Wish
  pub next : next_wish was.turn.txn was.turn.lines ≡ Some wish
  pub left : List Wish
  pub answer : Result Started Fault
  pub started : IsStarted setting (bar_of setting was.turn) wish (others_for was.listed wish registry) (wishes_for was.listed wish registry)
      registry old new left answer
  pub has : IsAnswered answer
  pub registry_is : registry_now ≡ registry_so wish.txn left answer
  pub seat_is : is ≡ seat_so was.turn answer

-- what an answer made of a transaction and the registry
pub record IsTaken (registry registry_now : List Wish) (was is : Seat) (answer : Result Started Fault) : Type 0 where
  pub has : IsAnswered answer
  pub registry_is : registry_now ≡ registry_so was.turn.txn registry answer
  pub seat_is : is ≡ seat_so was.turn answer

-- The caller played the transaction at a place on: its events are paid for, and it came nearer to its end.
pub record IsPlayedAt (setting : Setting) (old new : PassView) (place : ℕ) (were are : List Seat) : Type 0 where
  pub was : Seat
  pub is : Seat
  pub at : (d : Seat) → slice_index_or were place d ≡ was
  pub put : are ≡ slice_set were place is
  pub events : length new.front + work setting is ≤ length old.front + work setting was
  pub nearer : IsNearer was is

-- its last call was refused, and it does not wait
abbrev pub is_refused : Seat → Bool
is_refused seat = if seat.turn.waits then false else seat.busy

-- the transaction at a place, by whether its last call was refused: another is left as it was
abbrev pub PlaysAt : Bool → Setting → PassView → PassView → ℕ → List Seat → List Seat → Type 0
PlaysAt true setting old new place were are = IsPlayedAt setting old new place were are
PlaysAt false setting old new place were are = (new ≡ old) × (are ≡ were)

-- The transaction at a place asked, and was answered. Besides what is paid for that made the joins of all trees, an ask, and a
-- question for each that is registered, at most.
pub record IsAskedAt (setting : Setting) (old new : PassView) (registry registry_now : List Wish) (place : ℕ) (were are : List Seat) : Type 0 where
  pub was : Seat
  pub is : Seat
  pub at : (d : Seat) → slice_index_or were place d ≡ was
  pub put : are ≡ slice_set were place is
  pub asked : HasAsked setting old new registry registry_now was is
  pub cost : StartsCost setting (length (wishes_for was.listed asked.wish registry)) old new was asked.answer
  pub events : length new.front + work setting is ≤ length old.front + work setting was + (setting.plan.trees + 1 + length were)

-- the transaction at a place, by whether it waits: another is left as it was
abbrev pub AsksAt : Bool → Setting → PassView → PassView → List Wish → List Wish → ℕ → List Seat → List Seat → Type 0
AsksAt true setting old new registry registry_now place were are = IsAskedAt setting old new registry registry_now place were are
AsksAt false setting old new registry registry_now place were are = (new ≡ old) × (registry_now ≡ registry) × (are ≡ were)

-- The caller's moves leave a crew of these transactions as it may be between two of them, with the same registry.
abbrev pub StaysCrew : Setting → List Event → List Event → List Seat → List Seat → Type 0
StaysCrew setting before history were are =
    (lines : List Line) (registry : List Wish) → AreFitDeeds setting lines → IsCrew setting lines before registry were
    → IsCrew setting lines history registry are

-- such a crew, of some trace
pub record IsSomeCrew (setting : Setting) (history : List Event) (seats : List Seat) : Type 0 where
  pub lines : List Line
  pub registry : List Wish
  pub deeds : AreFitDeeds setting lines
  pub crew : IsCrew setting lines history registry seats

-- The same where a transaction asked, and the registry may be another.
pub record IsCrewOf (setting : Setting) (history : List Event) (registry : List Wish) (seats : List Seat) : Type 0 where
  pub lines : List Line
  pub deeds : AreFitDeeds setting lines
  pub crew : IsCrew setting lines history registry seats

abbrev pub AsksStay : Setting → List Event → List Event → List Wish → List Wish → List Seat → List Seat → Type 0
AsksStay setting before history registry registry_now were are =
    (lines : List Line) → AreFitDeeds setting lines → IsCrew setting lines before registry were → IsCrew setting lines history registry_now are
