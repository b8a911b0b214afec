-- What is known of a transaction between two moves of it, and of the places that are left for one.
use Rattle.std.specs.Prelude.{◌≡◌, ℕ, ◌+◌, ◌≤◌, length, true, false, Some, List}
use Rattle.lt_seq.specs.Table.{Setting}
use Rattle.lt_seq.specs.Yard.{PassView, HasAll, place_after, places_end}
use Rattle.lt_requests.specs.declared.wish.Wish.{Wish}
use Rattle.lt_requests.specs.Registered.{Ascend, is_registered}
use Rattle.lt_runner.specs.TurnView.{Seat}
use Rattle.lt_runner.specs.Plays.{next_wish}
use Rattle.lt_runner.specs.PlaysOn.{IsFit}
use Rattle.lt_runner.specs.Played.{IsOver}
use Rattle.lt_runner.specs.Standing.{IsStanding}
use Rattle.lt_live.specs.House.{IsPassFit}

-- It may be played on: its deeds fit the table, and until it has ended the line that ends it is left.
pub record MayGoOn (setting : Setting) (seat : Seat) : Type 0 where
  pub fit : IsFit setting seat
  pub standing : IsStanding setting seat.turn

-- It does not wait, and unless it is over its last call was not refused.
pub record IsUnheld (seat : Seat) : Type 0 where
  pub goes : seat.turn.waits ≡ false
  pub free : seat.busy ≡ true → IsOver seat

-- Behind what the pass has seen there are places for the joins of all trees, an ask, and questions for so many and one more.
abbrev pub HasRoomFor : Setting → PassView → ℕ → Type 0
HasRoomFor setting pass waiting = place_after setting pass.front + setting.plan.trees + 2 + waiting ≤ places_end

-- A pass that acts alone may ask with the wish of a transaction that is not registered: it is at a lock line, and there is room.
pub record MayAskAlone (setting : Setting) (pass : PassView) (registry : List Wish) (seat : Seat) (wish : Wish) : Type 0 where
  pub fit : IsPassFit setting pass
  pub all : HasAll setting pass
  pub may : MayGoOn setting seat
  pub next : next_wish seat.turn.txn seat.turn.lines ≡ Some wish
  pub absent : is_registered wish.txn registry ≡ false
  pub ascend : Ascend registry
  pub room : HasRoomFor setting pass (length registry)
