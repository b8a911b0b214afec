-- What a start or a retry by a pass that acts alone makes of a transaction that waits.
use Rattle.std.specs.Prelude.{◌≡◌, ℕ, ◌+◌, ◌<◌, ◌≤◌, List, [], ◌∷◌, length, Some, Result, Ok, Err}
use Rattle.lt_seq.specs.declared.fault.Fault.{Fault}
use Rattle.lt_seq.specs.declared.fault.Fault.TheVariants.{OutOfMemory, Busy, HistoryFull, OutOfLocks}
use Rattle.lt_seq.specs.Table.{Setting}
use Rattle.lt_seq.specs.Yard.{PassView, HasAll, IsSound, place_after, places_end}
use Rattle.lt_requests.specs.declared.wish.Wish.{Wish}
use Rattle.lt_requests.specs.declared.started.Started.{Started}
use Rattle.lt_requests.specs.declared.started.Started.TheVariants.{Granted, Waits, Deadlock}
use Rattle.lt_requests.specs.Registered.{Ascend, wish_of}
use Rattle.lt_requests.specs.Started.{IsStarted}
use Rattle.lt_runner.specs.TurnView.{Seat}
use Rattle.lt_runner.specs.Plays.{next_wish}
use Rattle.lt_runner.specs.Attempt.{bar_of}
use Rattle.lt_runner.specs.PlaysOn.{PlaysOn}
use Rattle.lt_runner.specs.Board.{seat_so}

-- Its next line is a lock line, for which this is its wish, and it is among those that are registered then.
pub record IsAmongWishes (seat : Seat) (wish : Wish) (wishes : List Wish) : Type 0 where
  pub next : next_wish seat.turn.txn seat.turn.lines ≡ Some wish
  pub ascend : Ascend wishes
  pub own : wish_of wish.txn wishes ≡ Some wish

-- It is played on by an ask that is held, and one search behind it, at a place among those of the pass's own events.
pub record SearchesOn (setting : Setting) (wishes : List Wish) (old new : PassView) (was is : Seat) : Type 0 where
  pub place : ℕ
  pub late : place_after setting old.front ≤ place
  pub inside : place < place_after setting new.front
  pub plays : PlaysOn setting (record { txn = was.turn.txn; place = place; wishes = wishes } ∷ []) old new was is

-- By the answer: a grant, or that it is out of locks, has no search. No other fault comes than want of memory.
abbrev pub StartsOn : Setting → List Wish → PassView → PassView → Seat → Result Started Fault → Type 0
StartsOn setting wishes old new was (Ok (Granted place buffered)) =
    PlaysOn setting [] old new was (seat_so was.turn (Ok (Granted place buffered)))
StartsOn setting wishes old new was (Ok (Waits owners)) = SearchesOn setting wishes old new was (seat_so was.turn (Ok (Waits owners)))
StartsOn setting wishes old new was (Ok (Deadlock walk)) = SearchesOn setting wishes old new was (seat_so was.turn (Ok (Deadlock walk)))
StartsOn setting wishes old new was (Err OutOfMemory) = Unit {0}
StartsOn setting wishes old new was (Err (Busy row holder)) = ⊥
StartsOn setting wishes old new was (Err (HistoryFull place)) = ⊥
StartsOn setting wishes old new was (Err (OutOfLocks place used_rows)) =
    PlaysOn setting [] old new was (seat_so was.turn (Err (OutOfLocks place used_rows)))

-- A pass that has all the rights, of whatever number, with places for the joins of all trees, an ask, and a question for each that waits.
pub record MayStart (setting : Setting) (pass : PassView) (wishes : List Wish) : Type 0 where
  pub all : HasAll setting pass
  pub trees : 1 ≤ setting.plan.trees
  pub places : place_after setting pass.front + setting.plan.trees + 1 + length wishes ≤ places_end

-- So it is for each answer of a start or a retry by a pass that has all the rights, whether the transaction waited before or not.
abbrev pub StartsPlayOn : Type 0
StartsPlayOn =
    (setting : Setting) (bar : ℕ) (seat : Seat) (wish : Wish) (others wishes before : List Wish) (old new : PassView)
    (left : List Wish) (result : Result Started Fault)
    → bar ≡ bar_of setting seat.turn → MayStart setting old wishes → IsSound setting old → IsAmongWishes seat wish wishes
    → IsStarted setting bar wish others wishes before old new left result
    → StartsOn setting wishes old new seat result
