-- What one call makes of a transaction that is played, whatever others do meanwhile.
use Rattle.std.specs.Prelude.{◌≡◌, ℕ, ◌+◌, ◌≤◌, ◌<◌, List, [], ◌∷◌, ◌++◌, length, is_some, Some, None, true, false, IsTrue, Result, Ok, Err, if◌then◌else◌}
use Rattle.std.specs.List.{AllByRecursion}
use Rattle.lt_ranges.specs.Interval.{Interval}
use Rattle.lt_seq.specs.declared.event.Deed.{Deed}
use Rattle.lt_seq.specs.declared.event.Deed.TheVariants.{Ask, Free, Who, Join}
use Rattle.lt_seq.specs.declared.event.Reply.TheVariants.{Granted}
use Rattle.lt_seq.specs.declared.event.Event.{Event}
use Rattle.lt_seq.specs.declared.event.Receipt.{Receipt}
use Rattle.lt_seq.specs.declared.fault.Fault.{Fault}
use Rattle.lt_seq.specs.declared.fault.Fault.TheVariants.{OutOfMemory, Busy, HistoryFull, OutOfLocks}
use Rattle.lt_seq.specs.Table.{Setting}
use Rattle.lt_seq.specs.Questions.{events_of}
use Rattle.lt_seq.specs.Yard.{PassView, HasAll, Goes, IsPlan, IsSound, place_after, places_end}
use Rattle.lt_trace.specs.declared.line.Line.{Line}
use Rattle.lt_trace.specs.declared.line.LineDeed.{LineDeed}
use Rattle.lt_trace.specs.declared.line.LineDeed.TheVariants.{Try, Lock, End, Abort, Escalate, Big}
use Rattle.lt_runner.specs.declared.release.Release.{Release}
use Rattle.lt_runner.specs.declared.turn.Moved.{Moved}
use Rattle.lt_runner.specs.declared.turn.Moved.TheVariants.{Played, Held, Ended}
use Rattle.lt_runner.specs.TurnView.{Turn, Seat}
use Rattle.lt_runner.specs.Plays.{Stage, line_question}
use Rattle.lt_runner.specs.Played.{Search, Fits, IsAtLine, HasCome}

-- What brings a transaction on, with these searches of its own. Whatever searches there were, it is listed rightly in them still.
abbrev pub Brings : Setting → List Search → List Event → List Event → Seat → Seat → List Receipt → Type 0
Brings setting found old new was is made =
    (opening : Stage) (receipts : List Receipt) (searches : List Search) → IsAtLine opening
    → Fits searches found (place_after setting old) opening.turn.txn
    → HasCome true setting searches old opening was receipts → HasCome true setting searches new opening is (receipts ++ made)

-- A pass plays a transaction: the receipts that it adds are the transaction's, and bring it on.
pub record PlaysOn (setting : Setting) (found : List Search) (old new : PassView) (was is : Seat) : Type 0 where
  pub made : List Receipt
  pub txn : is.turn.txn ≡ was.turn.txn
  pub goes : Goes setting old new
  pub rights : new.rights ≡ old.rights
  pub mine : new.mine ≡ old.mine ++ made
  pub own : AllByRecursion (λ r. r.event.txn ≡ was.turn.txn) made
  pub alone : HasAll setting old → new.front ≡ old.front ++ events_of made
  pub comes : Brings setting found old.front new.front was is made

-- the trees of a line are there
abbrev pub IsFitLine : Setting → LineDeed → Type 0
IsFitLine setting (Try tree range) = tree < setting.plan.trees
IsFitLine setting (Lock tree range) = tree < setting.plan.trees
IsFitLine setting End = Unit {0}
IsFitLine setting Abort = Unit {0}
IsFitLine setting (Escalate tree) = tree < setting.plan.trees
IsFitLine setting Big = Unit {0}

-- a transaction that may be played on a table: one that has ended has no line
pub record IsFit (setting : Setting) (seat : Seat) : Type 0 where
  pub txn : 1 ≤ seat.turn.txn
  pub lines : AllByRecursion (λ line. IsFitLine setting line.deed) seat.turn.lines
  pub releases : AllByRecursion (λ r. r.tree < setting.plan.trees) seat.turn.releases
  pub recorded : length seat.turn.recorded ≡ setting.plan.trees
  pub over : IsTrue (is_some seat.turn.outcome) → seat.turn.lines ≡ []

-- what a pass is that may play
pub record IsReady (setting : Setting) (pass : PassView) : Type 0 where
  pub plan : IsPlan setting.plan
  pub right : 1 ≤ pass.rights
  pub sound : IsSound setting pass

-- It may be played: it does not wait. One whose last call was refused is played on by a pass that acts alone, where there are places
-- for an event and the joins before it.
pub record IsNext (setting : Setting) (pass : PassView) (seat : Seat) : Type 0 where
  pub goes : seat.turn.waits ≡ false
  pub alone : seat.busy ≡ true → HasAll setting pass
  pub places : seat.busy ≡ true → place_after setting pass.front + setting.plan.trees < places_end

-- the next line asks for this range
pub record IsNextAsk (turn : Turn) (tree : ℕ) (range : Interval) (line : Line) (rest : List Line) : Type 0 where
  pub lines : turn.lines ≡ line ∷ rest
  pub asks_it : line_question line.deed ≡ Some (Ask tree range Granted)
  pub goes : turn.waits ≡ false

-- this is the next line
abbrev pub IsNextLine : Seat → Line → Type 0
IsNextLine seat line = (rest : List Line) × (seat.turn.lines ≡ line ∷ rest)

-- this is the next free of its release
abbrev pub IsNextFree : Seat → Release → Type 0
IsNextFree seat r = (rest : List Release) × (seat.turn.releases ≡ r ∷ rest)

-- the deed is an ask
abbrev pub IsAskDeed : Deed → Type 0
IsAskDeed (Ask tree range reply) = Unit {0}
IsAskDeed (Free tree range first count) = ⊥
IsAskDeed (Who tree range named owners) = ⊥
IsAskDeed (Join tree before after) = ⊥

-- what a pass keeps, whatever a play of it answers
pub record IsKept (setting : Setting) (old new : PassView) : Type 0 where
  pub goes : Goes setting old new
  pub rights : new.rights ≡ old.rights

-- unless memory was short
abbrev pub UnlessShort : Result Moved Fault → Type 0 → Type 0
UnlessShort (Ok moved) P = P
UnlessShort (Err OutOfMemory) P = Unit {0}
UnlessShort (Err (Busy row holder)) P = P
UnlessShort (Err (HistoryFull place)) P = P
UnlessShort (Err (OutOfLocks place used_rows)) P = ⊥

-- Which answer it is: Held exactly where it waits now, and Ended exactly where it had ended before. After Played and Held no call of it
-- is left refused.
abbrev pub IsMoved : Seat → Seat → Result Moved Fault → Type 0
IsMoved was is (Ok Played) = (was.turn.outcome ≡ None) × (is.turn.waits ≡ false) × (is.busy ≡ false)
IsMoved was is (Ok Held) = (was.turn.outcome ≡ None) × (is.turn.waits ≡ true) × (is.busy ≡ false)
IsMoved was is (Ok Ended) = IsTrue (is_some was.turn.outcome) × (is.turn ≡ record was.turn { releases = [] })
IsMoved was is (Err fault) = Unit {0}

-- what an attempt at a line came to
abbrev pub moved_to : Seat → Moved
moved_to seat = if seat.turn.waits then Held else Played
