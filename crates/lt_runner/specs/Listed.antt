-- Who is registered between two calls of a crew's caller.
use Rattle.std.specs.Prelude.{◌≡◌, ◌≢◌, ℕ, ◌<◌, ◌≤◌, List, map, length, Bool}
use Rattle.std.specs.Prelude.{true, Some, None, IfSome, IsTrue, Result, if◌then◌else◌, slice_index_or, slice_set}
use Rattle.std.specs.List.{AllByRecursion, filter_map}
use Rattle.std.specs.List.Sorted.{IsStrictlySortedBy}
use Rattle.std.specs.Ordering.{nat_cmp}
use Rattle.lt_seq.specs.declared.fault.Fault.{Fault}
use Rattle.lt_seq.specs.Table.{Setting}
use Rattle.lt_seq.specs.Yard.{PassView}
use Rattle.lt_requests.specs.declared.wish.Wish.{Wish}
use Rattle.lt_requests.specs.declared.started.Started.{Started}
use Rattle.lt_requests.specs.Registered.{MayAsk, may_ask, is_registered, without, with_wish}
use Rattle.lt_requests.specs.Started.{IsStarted}
use Rattle.lt_runner.specs.TurnView.{Seat}
use Rattle.lt_runner.specs.Plays.{next_wish, wish_in}
use Rattle.lt_runner.specs.Played.{IsAtLock}
use Rattle.lt_runner.specs.PlaysOn.{IsFit}
use Rattle.lt_runner.specs.Board.{IsAnswered, seat_so, registry_so}
use Rattle.lt_runner.specs.StartsOn.{IsAmongWishes}

-- what those that are registered wait for
abbrev pub listed_in : List Seat → List Wish
listed_in seats = filter_map (λ seat. if seat.listed then next_wish seat.turn.txn seat.turn.lines else None) seats

-- It waits at a lock line alone, and is registered only where it waits.
pub record IsSeated (seat : Seat) : Type 0 where
  pub lock : seat.turn.waits ≡ true → IsAtLock seat.turn.lines
  pub waits : seat.listed ≡ true → seat.turn.waits ≡ true

-- The seats ascend by transaction, and the registry has the wishes of exactly those that are registered.
pub record IsRegistryOf (registry : List Wish) (seats : List Seat) : Type 0 where
  pub sorted : IsStrictlySortedBy nat_cmp (map (λ seat. seat.turn.txn) seats)
  pub seated : AllByRecursion IsSeated seats
  pub all : registry ≡ listed_in seats

-- A transaction is listed rightly among these wishes: one that has a wish there waits for it, and one that is registered has its own.
pub record IsListedNow (wishes : List Wish) (seat : Seat) : Type 0 where
  pub waits : IfSome (wish_in seat.turn.txn wishes)
      (λ wish. IsTrue seat.turn.waits × (next_wish seat.turn.txn seat.turn.lines ≡ Some wish))
  pub listed : seat.listed ≡ true → wish_in seat.turn.txn wishes ≡ next_wish seat.turn.txn seat.turn.lines

-- all wishes, and the others', where one asks with its wish: it starts, or was listed already and asks again
abbrev pub wishes_for : Bool → Wish → List Wish → List Wish
wishes_for listed wish registry = if listed then registry else with_wish wish registry

abbrev pub others_for : Bool → Wish → List Wish → List Wish
others_for listed wish registry = if listed then without wish.txn registry else registry

-- Where the seat at this place asks with its wish: whether it is registered, and who is listed when its search begins.
pub record IsAskingAt (setting : Setting) (registry : List Wish) (seats : List Seat) (seat : Seat) (wish : Wish) (wishes : List Wish) : Type 0 where
  pub registered : is_registered wish.txn registry ≡ seat.listed
  pub own : IsAmongWishes seat wish wishes
  pub others : AllByRecursion (λ other. other.turn.txn ≢ seat.turn.txn → IsListedNow wishes other) seats
  pub few : length wishes ≤ length seats
  pub may_own : may_ask setting.plan.trees wish ≡ true
  pub may : MayAsk setting.plan.trees registry

-- So it is at each seat that waits.
abbrev pub SeatsAsk : Type 0
SeatsAsk =
    (setting : Setting) (registry : List Wish) (seats : List Seat) (place : ℕ) (seat d : Seat) (wish : Wish) (listed : Bool)
    → IsRegistryOf registry seats → AllByRecursion (IsFit setting) seats
    → place < length seats → slice_index_or seats place d ≡ seat → seat.listed ≡ listed
    → next_wish seat.turn.txn seat.turn.lines ≡ Some wish
    → IsAskingAt setting registry seats seat wish (wishes_for listed wish registry)

-- Behind the answer, and once one that was out of locks is forgotten, the registry has exactly the registered ones again.
abbrev pub RegistriesStay : Type 0
RegistriesStay =
    (setting : Setting) (bar : ℕ) (registry : List Wish) (seats : List Seat) (place : ℕ) (seat d : Seat) (wish : Wish) (listed : Bool)
    (old new : PassView) (left : List Wish) (result : Result Started Fault)
    → IsRegistryOf registry seats → place < length seats → slice_index_or seats place d ≡ seat → seat.listed ≡ listed
    → next_wish seat.turn.txn seat.turn.lines ≡ Some wish
    → IsStarted setting bar wish (others_for listed wish registry) (wishes_for listed wish registry) registry old new left result
    → IsAnswered result
    → IsRegistryOf (registry_so wish.txn left result) (slice_set seats place (seat_so seat.turn result))

-- Nor does it leave a seat that may not be played on.
abbrev pub SeatsStayFit : Type 0
SeatsStayFit =
    (setting : Setting) (seat : Seat) (wish : Wish) (result : Result Started Fault)
    → IsFit setting seat → next_wish seat.turn.txn seat.turn.lines ≡ Some wish → IsAnswered result → IsFit setting (seat_so seat.turn result)
