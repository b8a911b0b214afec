-- What a play comes to where no other pass acts: the plain scheduler's move.
use Rattle.std.specs.Prelude.{◌≡◌, ℕ, ◌+◌, ◌<◌, List, [], ◌∷◌, ◌++◌, length, false, Result, Ok, Err}
use Rattle.lt_seq.specs.declared.event.Deed.TheVariants.{Ask, Free, Join}
use Rattle.lt_seq.specs.declared.event.Reply.TheVariants.{Granted}
use Rattle.lt_seq.specs.declared.event.Event.{Event}
use Rattle.lt_seq.specs.declared.fault.Fault.{Fault}
use Rattle.lt_seq.specs.declared.fault.Fault.TheVariants.{OutOfMemory, Busy, HistoryFull, OutOfLocks}
use Rattle.lt_seq.specs.Table.{Setting}
use Rattle.lt_seq.specs.History.{IsFront}
use Rattle.lt_seq.specs.Questions.{receipt_after, events_of}
use Rattle.lt_seq.specs.Yard.{PassView, HasAll, Caused, place_after, places_end}
use Rattle.lt_trace.specs.declared.line.Line.{Line}
use Rattle.lt_trace.specs.declared.line.LineDeed.{LineDeed}
use Rattle.lt_trace.specs.declared.line.LineDeed.TheVariants.{Try, Lock, End, Abort, Escalate, Big}
use Rattle.lt_runner.specs.declared.release.Release.{Release}
use Rattle.lt_runner.specs.declared.turn.Moved.{Moved}
use Rattle.lt_runner.specs.TurnView.{Turn, Seat}
use Rattle.lt_runner.specs.Turn.{Move, escalates, grows, ends, receipts_in, turn_after}
use Rattle.lt_runner.specs.Seats.{idle}
use Rattle.lt_runner.specs.Serial.{attempt}

-- Why a play gave a fault, by a look of it, which saw no less than the pass had seen.
pub record HasCause (setting : Setting) (old new : PassView) (fault : Fault) : Type 0 where
  pub seen : List Event
  pub looked : IsFront old.front seen
  pub waited : IsFront seen new.front
  pub cause : Caused setting old new fault seen

-- each fault but want of memory has its cause, and none is out of locks
abbrev pub IsCaused : Setting → PassView → PassView → Result Moved Fault → Type 0
IsCaused setting old new (Ok moved) = Unit {0}
IsCaused setting old new (Err OutOfMemory) = Unit {0}
IsCaused setting old new (Err (Busy row holder)) = HasCause setting old new (Busy row holder)
IsCaused setting old new (Err (HistoryFull place)) = HasCause setting old new (HistoryFull place)
IsCaused setting old new (Err (OutOfLocks place used_rows)) = ⊥

-- The move at a line behind these events; a lock line that is held waits there without a search.
abbrev pub play_move : Setting → List Event → Turn → LineDeed → Move
play_move setting events turn (Try tree range) = attempt setting [] turn false (Ask tree range Granted) events
play_move setting events turn (Lock tree range) = attempt setting [] turn false (Ask tree range Granted) events
play_move setting events turn End = ends
play_move setting events turn Abort = ends
play_move setting events turn (Escalate tree) = escalates (receipt_after setting events 0 turn.txn (Join tree 0 0))
play_move setting events turn Big = grows

-- the events, and behind them the frees of a release
abbrev pub with_frees : Setting → ℕ → List Release → List Event → List Event
with_frees setting txn [] events = events
with_frees setting txn (r ∷ rs) events =
    with_frees setting txn rs (events ++ (receipt_after setting events 0 txn (Free r.tree r.range r.first 0)).event ∷ [])

-- it made this move
pub record IsMoveMade (setting : Setting) (old new : List Event) (was is : Seat) (move : Move) : Type 0 where
  pub front : new ≡ old ++ events_of (receipts_in move)
  pub seat : is ≡ idle (turn_after was.turn move)

-- it made the rest of its release
pub record IsReleased (setting : Setting) (old new : List Event) (was is : Seat) : Type 0 where
  pub front : new ≡ with_frees setting was.turn.txn was.turn.releases old
  pub turn : is.turn ≡ record was.turn { releases = [] }
  pub free : was.busy ≡ false → is.busy ≡ false
  pub listed : is.listed ≡ was.listed

-- by the lines that are left of it
abbrev pub IsPlayedAtOnce : Setting → List Line → List Event → List Event → Seat → Seat → Type 0
IsPlayedAtOnce setting [] old new was is = IsReleased setting old new was is
IsPlayedAtOnce setting (line ∷ lines) old new was is = IsMoveMade setting old new was is (play_move setting old was.turn line.deed)

abbrev pub IsAnsweredAtOnce : Setting → List Event → List Event → Seat → Seat → Result Moved Fault → Type 0
IsAnsweredAtOnce setting old new was is (Ok moved) = IsPlayedAtOnce setting was.turn.lines old new was is
IsAnsweredAtOnce setting old new was is (Err OutOfMemory) = Unit {0}
IsAnsweredAtOnce setting old new was is (Err (Busy row holder)) = ⊥
IsAnsweredAtOnce setting old new was is (Err (HistoryFull place)) = ⊥
IsAnsweredAtOnce setting old new was is (Err (OutOfLocks place used_rows)) = ⊥

-- it made one free, or memory was short
abbrev pub IsFreedAtOnce : Setting → PassView → PassView → Turn → Release → Result Moved Fault → Type 0
IsFreedAtOnce setting old new turn r (Ok moved) =
    new.front ≡ old.front ++ (receipt_after setting old.front 0 turn.txn (Free r.tree r.range r.first 0)).event ∷ []
IsFreedAtOnce setting old new turn r (Err OutOfMemory) = Unit {0}
IsFreedAtOnce setting old new turn r (Err (Busy row holder)) = ⊥
IsFreedAtOnce setting old new turn r (Err (HistoryFull place)) = ⊥
IsFreedAtOnce setting old new turn r (Err (OutOfLocks place used_rows)) = ⊥

-- a pass of number 0 that has all the rights, with places for an event, the joins before it, and the rest of the release
pub record MayPlayAtOnce (setting : Setting) (pass : PassView) (turn : Turn) : Type 0 where
  pub number : pass.number ≡ 0
  pub all : HasAll setting pass
  pub places : place_after setting pass.front + setting.plan.trees + length turn.releases < places_end

-- With all the rights, and places, a play makes the move, or memory was short.
abbrev pub IsAtOnce : Setting → PassView → PassView → Seat → Seat → Result Moved Fault → Type 0
IsAtOnce setting old new was is result =
    MayPlayAtOnce setting old was.turn → IsAnsweredAtOnce setting old.front new.front was is result
