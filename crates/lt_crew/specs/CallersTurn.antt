-- What a whole turn of a crew's caller makes of the transactions.
use Rattle.std.specs.Prelude.{◌≡◌, ℕ, ◌+◌, ◌<◌, ◌≤◌, List, length, true, false, Bool, Some, Result, ◌⊎◌}
use Rattle.lt_seq.specs.declared.fault.Fault.{Fault}
use Rattle.lt_seq.specs.Table.{Setting}
use Rattle.lt_seq.specs.Yard.{PassView, place_after, places_end}
use Rattle.lt_requests.specs.declared.started.Started.{Started}
use Rattle.lt_requests.specs.declared.wish.Wish.{Wish}
use Rattle.lt_runner.specs.Plays.{next_wish}
use Rattle.lt_runner.specs.TurnView.{Seat}
use Rattle.lt_runner.specs.Board.{IsAnswered, seat_so}
use Rattle.lt_runner.specs.CrewCost.{sum_of}
use Rattle.lt_runner.specs.Work.{work, steps}
use Rattle.lt_crew.specs.Caller.{IsNearer, is_refused}

-- by whether its last call was refused: another is left as it was
abbrev pub PlayedOn : Bool → Seat → Seat → Type 0
PlayedOn true was is = IsNearer was is
PlayedOn false was is = is ≡ was

-- one that was refused was played on
abbrev pub IsPlayedOn : Seat → Seat → Type 0
IsPlayedOn was is = PlayedOn (is_refused was) was is

-- it asked for its wish, is what the answer made of it, and took no step back
pub record HasAnswerNow (was is : Seat) : Type 0 where
  pub wish : Wish
  pub next : next_wish was.turn.txn was.turn.lines ≡ Some wish
  pub answer : Result Started Fault
  pub has : IsAnswered answer
  pub seat_is : is ≡ seat_so was.turn answer
  pub steps : steps is ≤ steps was

-- by whether it waits: another is left as it was
abbrev pub Answered : Bool → Seat → Seat → Type 0
Answered true was is = HasAnswerNow was is
Answered false was is = is ≡ was

-- one that waits was answered
abbrev pub IsAnsweredNow : Seat → Seat → Type 0
IsAnsweredNow was is = Answered was.turn.waits was is

-- the events that were made are paid for by what was left of the transactions, and by this much more
abbrev pub ArePaid : Setting → PassView → PassView → List Seat → List Seat → ℕ → Type 0
ArePaid setting old new were are more =
    length new.front + sum_of (work setting) are ≤ length old.front + sum_of (work setting) were + more

-- there are places for all that is left of the transactions, and for so much more
abbrev pub HasPlaces : Setting → PassView → List Seat → ℕ → Type 0
HasPlaces setting pass seats more = place_after setting pass.front + sum_of (work setting) seats + setting.plan.trees + more < places_end

-- A whole turn of the caller: no call of it is left refused where a step is left, one that waits is registered, and one whose last
-- call was refused has come nearer to its end.
pub record IsTurned (was is : Seat) : Type 0 where
  pub calm : (is.busy ≡ false) ⊎ (steps is ≡ 0)
  pub listed : is.turn.waits ≡ true → is.listed ≡ true
  pub nearer : is_refused was ≡ true → (steps is < steps was) ⊎ (steps is ≡ 0)
  pub steps : steps is ≤ steps was
