-- One transaction as it is played: what it does at a time, and what is left of it then.
use Rattle.std.specs.Prelude.{ℕ, ◌+◌, List, [], ◌∷◌, ◌++◌, Option, Some, None, Bool, true, false, if◌then◌else◌, slice_index_or, slice_set}
use Rattle.lt_ranges.specs.Interval.{Interval, whole}
use Rattle.lt_seq.specs.declared.event.Deed.{Deed}
use Rattle.lt_seq.specs.declared.event.Deed.TheVariants.{Ask, Free, Who, Join}
use Rattle.lt_seq.specs.declared.event.Reply.{Reply}
use Rattle.lt_seq.specs.declared.event.Reply.TheVariants.{Granted, Buffered, HeldBy}
use Rattle.lt_seq.specs.declared.event.Receipt.{Receipt}
use Rattle.lt_seq.specs.Table.{used}
use Rattle.lt_seq.specs.History.{after}
use Rattle.lt_trace.specs.declared.line.Line.{Line}
use Rattle.lt_trace.specs.declared.line.LineDeed.{LineDeed}
use Rattle.lt_trace.specs.declared.line.LineDeed.TheVariants.{Try, Lock, End, Abort, Escalate, Big}
use Rattle.lt_requests.specs.declared.wish.Wish.{Wish}
use Rattle.lt_requests.specs.declared.cycle.Edge.{Edge}
use Rattle.lt_requests.specs.Search.{edges_in}
use Rattle.lt_requests.specs.Walks.{cycle_of}
use Rattle.lt_runner.specs.declared.release.Release.{Release}
use Rattle.lt_runner.specs.TurnView.{Recorded, Turn}
use Rattle.lt_history.specs.declared.outcome.Outcome.{Outcome}
use Rattle.lt_history.specs.declared.outcome.Outcome.TheVariants.{Done, Aborted, Deadlock, OutOfLocks}

-- one free for each range, the first one marked
abbrev pub releases_by : ℕ → Bool → List Interval → List Release
releases_by tree first [] = []
releases_by tree first (range ∷ ranges) = record { tree = tree; range = range; first = first } ∷ releases_by tree false ranges

-- the release of one tree: all at once where the last range was buffered
abbrev pub releases_in : ℕ → Recorded → List Release
releases_in tree recorded =
    if recorded.buffered then record { tree = tree; range = whole; first = true } ∷ [] else releases_by tree true recorded.ranges

-- the release of all trees, from this one on
abbrev pub releases_from : ℕ → List Recorded → List Release
releases_from tree [] = []
releases_from tree (r ∷ rs) = releases_in tree r ++ releases_from (tree + 1) rs

abbrev pub nothing_recorded : Recorded
nothing_recorded = record { ranges = []; buffered = false }

-- What it does at a time.
pub data Move : Type 0 where
  -- the joins of an ask that was busy in the midst of them
  leaves : (joins : List Receipt) → Move
  -- an attempt: its joins and its ask
  asks : (joins : List Receipt) (ask : Receipt) → Move
  -- an attempt that is held, with a search among the wishes that were registered then
  waits : (joins : List Receipt) (ask : Receipt) (wishes : List Wish) (search : List Receipt) → Move
  -- an attempt that is out of locks: its joins and its last look
  stops : (joins : List Receipt) (place used : ℕ) → Move
  -- an escalate line
  escalates : Receipt → Move
  -- a big line
  grows : Move
  -- an end or abort line
  ends : Move
  -- one free of the release
  frees : Receipt → Move

abbrev pub receipts_in : Move → List Receipt
receipts_in (leaves joins) = joins
receipts_in (asks joins ask) = joins ++ ask ∷ []
receipts_in (waits joins ask wishes search) = joins ++ ask ∷ search
receipts_in (stops joins place used) = joins
receipts_in (escalates join) = join ∷ []
receipts_in grows = []
receipts_in ends = []
receipts_in (frees free) = free ∷ []

-- The turn after a move.

abbrev pub rest_of : List Line → List Line
rest_of [] = []
rest_of (line ∷ lines) = lines

-- the next line is done
abbrev pub past : Turn → Turn
past turn = record turn { lines = rest_of turn.lines; waits = false }

-- a range is recorded
abbrev pub granted_to : ℕ → Interval → Bool → Turn → Turn
granted_to tree range buffered turn =
    let before = slice_index_or turn.recorded tree nothing_recorded in
    record (past turn) { recorded = slice_set turn.recorded tree (record { ranges = before.ranges ++ range ∷ []; buffered = buffered }) }

-- the lines are over, and the release is next
abbrev pub ending : Outcome → Turn → Turn
ending outcome turn =
    record (past turn) { lines = []; outcome = Some outcome; releases = releases_from 0 turn.recorded }

abbrev pub answered_by : ℕ → Interval → Reply → Turn → Turn
answered_by tree range Granted turn = granted_to tree range false turn
answered_by tree range Buffered turn = granted_to tree range true turn
answered_by tree range (HeldBy owners) turn = past turn

-- a lock line that is held waits, unless a walk is found
abbrev pub walked : Option (List Edge) → Turn → Turn
walked None turn = record turn { waits = true }
walked (Some walk) turn = ending (Deadlock walk) turn

abbrev pub locked_by : ℕ → Interval → Reply → Option (List Edge) → Turn → Turn
locked_by tree range Granted walk turn = granted_to tree range false turn
locked_by tree range Buffered walk turn = granted_to tree range true turn
locked_by tree range (HeldBy owners) walk turn = walked walk turn

abbrev pub reply_in : Deed → Reply
reply_in (Ask tree range reply) = reply
reply_in (Free tree range first count) = Granted
reply_in (Who tree range named owners) = Granted
reply_in (Join tree before after) = Granted

-- a line that was asked for, with the walk that its search found
abbrev pub asked_at : List Line → Reply → Option (List Edge) → Turn → Turn
asked_at [] reply walk turn = turn
asked_at (line ∷ lines) reply walk turn = by_deed line.deed
  where
    by_deed : LineDeed → Turn
    by_deed (Try tree range) = answered_by tree range reply turn
    by_deed (Lock tree range) = locked_by tree range reply walk turn
    by_deed End = turn
    by_deed Abort = turn
    by_deed (Escalate tree) = turn
    by_deed Big = turn

abbrev pub ended_at : List Line → Turn → Turn
ended_at [] turn = turn
ended_at (line ∷ lines) turn = by_deed line.deed
  where
    by_deed : LineDeed → Turn
    by_deed (Try tree range) = turn
    by_deed (Lock tree range) = turn
    by_deed End = ending Done turn
    by_deed Abort = ending Aborted turn
    by_deed (Escalate tree) = turn
    by_deed Big = turn

abbrev pub rest_of_release : List Release → List Release
rest_of_release [] = []
rest_of_release (r ∷ rs) = rs

-- the turn after a move
abbrev pub turn_after : Turn → Move → Turn
turn_after turn (leaves joins) = turn
turn_after turn (asks joins ask) = asked_at turn.lines (reply_in ask.event.deed) None turn
turn_after turn (waits joins ask wishes search) =
    asked_at turn.lines (reply_in ask.event.deed) (cycle_of (edges_in wishes (ask ∷ search)) turn.txn) turn
turn_after turn (stops joins place used_rows) = ending (OutOfLocks place used_rows) turn
turn_after turn (escalates join) = past turn
turn_after turn grows = record (past turn) { big = true }
turn_after turn ends = ended_at turn.lines turn
turn_after turn (frees free) = record turn { releases = rest_of_release turn.releases }
