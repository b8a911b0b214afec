-- What a start or a retry comes to where no other pass acts: the plain scheduler's move at a lock line.
use Rattle.std.specs.Prelude.{◌≡◌, ℕ, ◌+◌, ◌≤◌, List, ◌∷◌, ◌++◌, length, true, Result, Ok, Err}
use Rattle.lt_seq.specs.declared.event.Event.{Event}
use Rattle.lt_seq.specs.declared.fault.Fault.{Fault}
use Rattle.lt_seq.specs.declared.fault.Fault.TheVariants.{OutOfMemory, Busy, HistoryFull, OutOfLocks}
use Rattle.lt_seq.specs.Table.{Setting}
use Rattle.lt_seq.specs.Questions.{events_of}
use Rattle.lt_seq.specs.Yard.{PassView, HasAll, place_after, places_end}
use Rattle.lt_requests.specs.declared.wish.Wish.{Wish}
use Rattle.lt_requests.specs.declared.started.Started.{Started}
use Rattle.lt_requests.specs.declared.started.Started.TheVariants.{Granted, Waits, Deadlock}
use Rattle.lt_requests.specs.Registered.{Ascend}
use Rattle.lt_requests.specs.Started.{IsStarted, deed_for}
use Rattle.lt_history.specs.declared.outcome.Outcome.TheVariants.{Deadlock as EndedByDeadlock, OutOfLocks as StoppedAt}
use Rattle.lt_trace.specs.declared.line.Line.{Line}
use Rattle.lt_trace.specs.declared.line.LineDeed.TheVariants.{Lock}
use Rattle.lt_runner.specs.TurnView.{Turn}
use Rattle.lt_runner.specs.Turn.{Move, receipts_in, turn_after, ending}
use Rattle.lt_runner.specs.Attempt.{bar_of}
use Rattle.lt_runner.specs.Seats.{granted_at}
use Rattle.lt_runner.specs.Serial.{attempt, wishes_in, with_turn}

-- a pass of number 0 that has all the rights, with places for the joins of all trees, an ask, and a question for each that waits
pub record MayStartAtOnce (setting : Setting) (pass : PassView) (wishes : List Wish) : Type 0 where
  pub number : pass.number ≡ 0
  pub all : HasAll setting pass
  pub trees : 1 ≤ setting.plan.trees
  pub places : place_after setting pass.front + setting.plan.trees + 1 + length wishes ≤ places_end

-- the turn is at a lock line, for which this is its wish, and these are the wishes of all that wait with it among them
pub record IsAtLock (turns : List Turn) (turn : Turn) (line : Line) (lines : List Line) (wish : Wish) (wishes : List Wish) : Type 0 where
  pub lines_are : turn.lines ≡ line ∷ lines
  pub lock : line.deed ≡ Lock wish.tree wish.range
  pub own : wish.txn ≡ turn.txn
  pub all : wishes ≡ wishes_in (with_turn (record turn { waits = true }) turns)
  pub ascend : Ascend wishes

-- the turn's move at its lock line, and what it made of the events and of the turn
pub record IsLockMove (setting : Setting) (turns : List Turn) (turn : Turn) (wish : Wish) (old new : List Event) (is : Turn) : Type 0 where
  pub move : Move
  pub move_is : attempt setting turns turn true (deed_for wish) old ≡ move
  pub front : new ≡ old ++ events_of (receipts_in move)
  pub turn_is : is ≡ turn_after turn move

-- by the answer of the start or the retry; no other fault comes than want of memory and that the ask was out of locks
abbrev pub IsStartedAtOnce : Setting → List Turn → Turn → Wish → List Event → List Event → Result Started Fault → Type 0
IsStartedAtOnce setting turns turn wish old new (Ok (Granted place buffered)) =
    IsLockMove setting turns turn wish old new (granted_at turn buffered)
IsStartedAtOnce setting turns turn wish old new (Ok (Waits owners)) =
    IsLockMove setting turns turn wish old new (record turn { waits = true })
IsStartedAtOnce setting turns turn wish old new (Ok (Deadlock walk)) =
    IsLockMove setting turns turn wish old new (ending (EndedByDeadlock walk) turn)
IsStartedAtOnce setting turns turn wish old new (Err OutOfMemory) = Unit {0}
IsStartedAtOnce setting turns turn wish old new (Err (Busy row holder)) = ⊥
IsStartedAtOnce setting turns turn wish old new (Err (HistoryFull place)) = ⊥
IsStartedAtOnce setting turns turn wish old new (Err (OutOfLocks place used_rows)) =
    IsLockMove setting turns turn wish old new (ending (StoppedAt place used_rows) turn)

-- So it is for each answer of a start or a retry.
abbrev pub StartsAreMoves : Type 0
StartsAreMoves =
    (setting : Setting) (bar : ℕ) (turns : List Turn) (turn : Turn) (line : Line) (lines : List Line) (wish : Wish)
    (others wishes before : List Wish) (old new : PassView) (left : List Wish) (result : Result Started Fault)
    → bar ≡ bar_of setting turn → MayStartAtOnce setting old wishes → IsAtLock turns turn line lines wish wishes
    → IsStarted setting bar wish others wishes before old new left result
    → IsStartedAtOnce setting turns turn wish old.front new.front result
