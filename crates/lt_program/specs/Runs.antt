-- Who plays a trace, and what is told of its runs.
use Rattle.std.specs.Prelude.{◌≡◌, ℕ, List, map, true, false}
use Rattle.lt_seq.specs.declared.event.Event.{Event}
use Rattle.lt_seq.specs.declared.event.JoinNote.{JoinNote}
use Rattle.lt_seq.specs.KeepsLocks.{KeepsLocks}
use Rattle.lt_seq.specs.Table.{Setting}
use Rattle.lt_trace.specs.declared.line.Line.{Line}
use Rattle.lt_trace.specs.Trace.{TraceView}
use Rattle.lt_history.specs.Text.{text}
use Rattle.lt_watch.specs.Tellings.{Log, after_notes}
use Rattle.lt_runner.specs.declared.transcript.Transcript.{Transcript}
use Rattle.lt_runner.specs.Serial.{serial as run_serial, ran_text, setting_of}
use Rattle.lt_runner.specs.Notes.{notes_in, run_notes}
use Rattle.lt_runner.specs.Run.{Play, AreAllPlayed, IsRunText, run_text}
use Rattle.lt_crew.specs.RunCrew.{IsCrewRun, ran_by}
use Rattle.lt_live.specs.RunLive.{IsLiveRun, ran_by as ran_by_threads}
use Rattle.lt_program.specs.Playings.{Playing, serial, crew, live, cut, table_of}

-- It is the text of one legal history in which each transaction is played to its end by the rules of a crew, and no other has an
-- event. Who is registered when a search begins is not said.
abbrev pub IsTextOfPlays : Setting → List Line → List ℕ → Type 0
IsTextOfPlays setting lines written =
    (history : List Event) × (plays : List Play) × AreAllPlayed true setting lines history plays × KeepsLocks setting history
    × (written ≡ run_text setting history plays)

-- It is the text of a run: of one legal history in which each transaction of the trace is played to its end and no
-- other has an event, where no two transactions ever hold overlapping ranges, each refusal names exactly the other
-- owners that overlap, and a join takes no held key away and gives none that another holds.
abbrev pub IsTextOfRun : Playing → TraceView → List ℕ → Type 0
IsTextOfRun serial trace written = IsRunText false (table_of serial trace) trace.lines written
IsTextOfRun (crew workers) trace written = IsRunText true (table_of (crew workers) trace) trace.lines written
IsTextOfRun (live threads) trace written = IsTextOfPlays (table_of (live threads) trace) trace.lines written
IsTextOfRun (cut workers marks) trace written = IsRunText true (table_of (cut workers marks) trace) trace.lines written

-- The plain scheduler has one run of a trace.
pub record IsSerialRun (trace : TraceView) (written : List ℕ) (notes : List JoinNote) : Type 0 where
  pub text_is : written ≡ ran_text (run_serial trace 0)
  pub notes_are : notes ≡ run_notes trace 0

-- A crew has many. It is the text of one of them, and the notes are those of its joins, by place. Nothing is held at its end.
pub record IsRunByCrew (setting : Setting) (lines : List Line) (written : List ℕ) (notes : List JoinNote) : Type 0 where
  pub history : List Event
  pub plays : List Play
  pub run : IsCrewRun setting lines history plays
  pub text_is : written ≡ ran_text (ran_by setting history plays)
  pub notes_are : notes ≡ notes_in setting history

-- So have threads that wait for each other.
pub record IsRunByThreads (trace : TraceView) (threads : ℕ) (written : List ℕ) (notes : List JoinNote) : Type 0 where
  pub history : List Event
  pub plays : List Play
  pub run : IsLiveRun trace threads 0 history plays
  pub text_is : written ≡ ran_text (ran_by_threads trace threads 0 history plays)
  pub notes_are : notes ≡ notes_in (setting_of trace threads 0) history

-- the text and the notes of a run of the trace that is played so
abbrev pub IsRunOf : Playing → TraceView → List ℕ → List JoinNote → Type 0
IsRunOf serial trace written notes = IsSerialRun trace written notes
IsRunOf (crew workers) trace written notes = IsRunByCrew (table_of (crew workers) trace) trace.lines written notes
IsRunOf (live threads) trace written notes = IsRunByThreads trace threads written notes
IsRunOf (cut workers marks) trace written notes = IsRunByCrew (table_of (cut workers marks) trace) trace.lines written notes

-- the watches were told these notes, each once and in this order, but for those that did not fit
abbrev pub HasTold : List JoinNote → List Log → List Log → Type 0
HasTold notes before after = after ≡ map (after_notes notes) before

-- The trace was played, this is the run's text, and the watches were told its joins.
pub record HasPlayed (player : Playing) (trace : TraceView) (written : List ℕ) (before after : List Log) : Type 0 where
  pub notes : List JoinNote
  pub run : IsRunOf player trace written notes
  pub told : HasTold notes before after

-- the text of a transcript
abbrev pub transcript_text : Transcript → List ℕ
transcript_text transcript = text transcript.receipts.items transcript.outcomes.items transcript.places transcript.used
