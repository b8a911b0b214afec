-- What a pass of retries by a crew's caller comes to where each of them was held again.
use Rattle.std.specs.Prelude.{◌≡◌, ◌⊎◌, ℕ, ◌<◌, List, [], ◌∷◌, ◌++◌, fold, map, true, false, Some, Ok}
use Rattle.std.specs.List.{AllByRecursion}
use Rattle.lt_ranges.specs.Numbers.{is_in}
use Rattle.lt_seq.specs.declared.event.Event.{Event}
use Rattle.lt_seq.specs.Table.{Setting}
use Rattle.lt_seq.specs.History.{IsLegal}
use Rattle.lt_seq.specs.Yard.{PassView}
use Rattle.lt_requests.specs.declared.wish.Wish.{Wish}
use Rattle.lt_requests.specs.declared.started.Started.TheVariants.{Waits}
use Rattle.lt_requests.specs.Registered.{Ascend}
use Rattle.lt_requests.specs.Started.{IsStarted}
use Rattle.lt_runner.specs.TurnView.{Turn, Seat}
use Rattle.lt_runner.specs.Attempt.{bar_of}
use Rattle.lt_runner.specs.Plays.{next_wish}
use Rattle.lt_runner.specs.Serial.{game_at, turn_of, is_waiting, wishes_in, retried}
use Rattle.lt_runner.specs.Steps.{IsInOrder}
use Rattle.lt_runner.specs.Settles.{OwnersWait}
use Rattle.lt_runner.specs.StartsAlone.{MayStartAtOnce}
use Rattle.lt_runner.specs.Board.{turns_of, seat_so}
use Rattle.lt_runner.specs.Listed.{IsRegistryOf}

-- The plain scheduler's retries of these transactions lead from one history to the other, and change no turn.
abbrev pub AreHeldAgain : Setting → List Turn → List ℕ → List Event → List Event → Type 0
AreHeldAgain setting turns txns from now = fold (retried setting) (game_at from turns false) txns ≡ game_at now turns false

-- A retry of one that waits that was held again is such a one, where the registry has the wishes of exactly those that wait.
abbrev pub RetriesAreHeld : Type 0
RetriesAreHeld =
    (setting : Setting) (bar : ℕ) (turns : List Turn) (turn : Turn) (wish : Wish) (others registry before left : List Wish)
    (old new : PassView) (owners : List ℕ)
    → IsInOrder setting (map (λ t. t.txn) turns) (game_at old.front turns false) → is_in turn.txn (map (λ t. t.txn) turns) ≡ true
    → turn_of setting turn.txn turns ≡ turn → turn.waits ≡ true → next_wish turn.txn turn.lines ≡ Some wish
    → registry ≡ wishes_in turns → Ascend registry → bar ≡ bar_of setting turn → MayStartAtOnce setting old registry
    → IsStarted setting bar wish others registry before old new left (Ok (Waits owners))
    → retried setting (game_at old.front turns false) turn.txn ≡ game_at new.front turns false

-- Where a transaction waits and every pair is owned by one that waits, no pass of retries finds each of them held again.
abbrev pub RetriesSettleOne : Type 0
RetriesSettleOne =
    (setting : Setting) (turns : List Turn) (from now : List Event) (txn : ℕ) → 0 < setting.plan.passes
    → IsInOrder setting (map (λ t. t.txn) turns) (game_at from turns false) → IsLegal setting from
    → OwnersWait setting (game_at from turns false)
    → is_in txn (map (λ t. t.txn) turns) ≡ true → is_waiting (turn_of setting txn turns) ≡ true
    → AreHeldAgain setting turns (map (λ t. t.txn) turns) from now → ⊥

-- One held retry more; and one that does not wait is passed over.
abbrev pub RetriesGoOn : Type 0
RetriesGoOn =
    (setting : Setting) (turns : List Turn) (done : List ℕ) (txn : ℕ) (from mid now : List Event)
    → AreHeldAgain setting turns done from mid
    → (retried setting (game_at mid turns false) txn ≡ game_at now turns false)
    ⊎ ((is_waiting (turn_of setting txn turns) ≡ false) × (now ≡ mid))
    → AreHeldAgain setting turns (done ++ txn ∷ []) from now

-- each that waits is registered, as it is behind the caller's turn
abbrev pub AllWaitersListed : List Seat → Type 0
AllWaitersListed seats = AllByRecursion (λ seat. seat.listed ≡ seat.turn.waits) seats

-- The registry is then what the plain scheduler's would be; and a retry that was held again leaves the seat as it was.
abbrev pub ListedAreWaiters : Type 0
ListedAreWaiters =
    (registry : List Wish) (seats : List Seat) → IsRegistryOf registry seats → AllWaitersListed seats
    → (registry ≡ wishes_in (turns_of seats)) × Ascend registry

abbrev pub HeldSeatsStay : Type 0
HeldSeatsStay =
    (seat : Seat) (owners : List ℕ) → seat.turn.waits ≡ true → seat.busy ≡ false → seat.listed ≡ seat.turn.waits
    → seat_so seat.turn (Ok (Waits owners)) ≡ seat
