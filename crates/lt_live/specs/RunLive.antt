-- Whole runs of threads that wait for each other.
use Rattle.std.specs.Prelude.{◌≡◌, ℕ, List, [], map, length, true}
use Rattle.std.specs.Global.{Vec}
use Rattle.std.specs.List.{filter_map, flat_map}
use Rattle.std.specs.List.Sorted.{IsPermutation, IsNonDecreasingBy}
use Rattle.lt_seq.specs.declared.event.Event.{Event}
use Rattle.lt_seq.specs.declared.event.JoinNote.{JoinNote}
use Rattle.lt_seq.specs.declared.event.Receipt.{Receipt}
use Rattle.lt_seq.specs.declared.yard.Closed.{Closed}
use Rattle.lt_seq.specs.Table.{Setting, tree_at, used}
use Rattle.lt_seq.specs.History.{after}
use Rattle.lt_seq.specs.Questions.{all_receipts, events_of}
use Rattle.lt_seq.specs.KeepsLocks.{KeepsLocks}
use Rattle.lt_seq.specs.Passes.{IsRest}
use Rattle.lt_seq.specs.Yard.{PassView}
use Rattle.lt_trace.specs.Grammar.{txns_of, IsTrace}
use Rattle.lt_trace.specs.Trace.{TraceView}
use Rattle.lt_history.specs.declared.outcome.Ended.{Ended}
use Rattle.lt_runner.specs.declared.transcript.Transcript.{Transcript}
use Rattle.lt_runner.specs.Serial.{Ran, ended_in, setting_of}
use Rattle.lt_runner.specs.TurnView.{Seat}
use Rattle.lt_runner.specs.Run.{Play, AreAllPlayed, ended_as}
use Rattle.lt_runner.specs.Notes.{notes_in}
use Rattle.lt_runner.specs.Transcript.{Tells}
use Rattle.lt_live.specs.Live.{AllWorked}

-- A run of the trace by threads: one legal history in which each transaction of the trace is played to its end and no other has an
-- event. No lock is broken in it, and none is left at its end. Who is registered at a search is not said.
pub record IsLiveRun (trace : TraceView) (passes first : ℕ) (history : List Event) (plays : List Play) : Type 0 where
  pub all : AreAllPlayed true (setting_of trace passes first) trace.lines history plays
  pub locks : KeepsLocks (setting_of trace passes first) history
  pub nothing : (tree : ℕ) → (tree_at (after (setting_of trace passes first) history) tree).pairs ≡ []

-- what it leaves
abbrev pub ran_by : TraceView → ℕ → ℕ → List Event → List Play → Ran
ran_by trace passes first history plays = record {
  receipts = all_receipts first history;
  outcomes = map ended_as plays;
  places = length history;
  used = used (after (setting_of trace passes first) history);
}

-- the transcript tells exactly what such a run left
abbrev pub TellsLiveRun : TraceView → ℕ → ℕ → Transcript → Type 0
TellsLiveRun trace passes first transcript =
    (history : List Event) × (plays : List Play) × IsLiveRun trace passes first history plays
    × Tells (ran_by trace passes first history plays) transcript

-- the notes of the joins that it tells, by place
abbrev pub notes_told : TraceView → ℕ → ℕ → Transcript → List JoinNote
notes_told trace passes first transcript = notes_in (setting_of trace passes first) (events_of transcript.receipts.items)

-- what is told of a run with this history
pub record IsToldLive (trace : TraceView) (passes first : ℕ) (history : List Event) (transcript : Transcript) : Type 0 where
  pub run : TellsLiveRun trace passes first transcript
  pub numbers : map (λ ended. ended.txn) transcript.outcomes.items ≡ txns_of trace.lines
  pub notes : notes_told trace passes first transcript ≡ notes_in (setting_of trace passes first) history

-- So it is where all workers have worked and the table was closed: of the receipts of all passes by place, and of how the
-- transactions ended, by their numbers.
abbrev pub ToldLive : Type 0
ToldLive =
    (trace : TraceView) (passes first : ℕ) (setting : Setting) (history : List Event) (worked left : List PassView) (turns : List (List Seat))
    (seats : List Seat) (closed : Closed) (receipts : Vec Receipt) (outcomes : Vec Ended)
    → setting ≡ setting_of trace passes first → IsTrace trace → AllWorked setting trace.lines history worked turns
    → IsRest setting history left closed
    → IsPermutation (flat_map (λ list. list.items) closed.lists.items) receipts.items → IsNonDecreasingBy (λ r. r.place) receipts.items
    → IsPermutation (flat_map (λ ts. ts) turns) seats → IsNonDecreasingBy (λ s. s.turn.txn) seats
    → outcomes.items ≡ filter_map (λ seat. ended_in seat.turn) seats
    → IsToldLive trace passes first history (record { receipts = receipts; outcomes = outcomes; places = closed.places; used = closed.used })

-- At its end no tree has a pair, whoever played the transactions.
abbrev pub LiveLeavesNothing : Type 0
LiveLeavesNothing =
    (trace : TraceView) (passes first : ℕ) (history : List Event) (plays : List Play) → IsTrace trace
    → AreAllPlayed true (setting_of trace passes first) trace.lines history plays
    → (tree : ℕ) → (tree_at (after (setting_of trace passes first) history) tree).pairs ≡ []
