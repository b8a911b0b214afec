-- Whole runs of a crew.
use Rattle.std.specs.Prelude.{◌≡◌, ℕ, ◌+◌, ◌*◌, ◌<◌, ◌≤◌, List, [], map, length, slice_index_or, true}
use Rattle.lt_ranges.specs.declared.key.Key.{Key}
use Rattle.lt_seq.specs.declared.event.Event.{Event}
use Rattle.lt_seq.specs.declared.event.JoinNote.{JoinNote}
use Rattle.lt_seq.specs.Table.{Setting, tree_at, used}
use Rattle.lt_seq.specs.History.{after}
use Rattle.lt_seq.specs.Yard.{places_end}
use Rattle.lt_seq.specs.Questions.{all_receipts, events_of}
use Rattle.lt_seq.specs.KeepsLocks.{KeepsLocks}
use Rattle.lt_trace.specs.declared.line.Line.{Line}
use Rattle.lt_trace.specs.Trace.{TraceView}
use Rattle.lt_requests.specs.declared.wish.Wish.{Wish}
use Rattle.lt_runner.specs.declared.transcript.Transcript.{Transcript}
use Rattle.lt_runner.specs.TurnView.{Seat}
use Rattle.lt_runner.specs.Played.{IsOver}
use Rattle.lt_runner.specs.Retries.{AllWaitersListed}
use Rattle.lt_runner.specs.Work.{work, steps}
use Rattle.lt_runner.specs.CrewCost.{sum_of, pass_cost}
use Rattle.lt_runner.specs.Serial.{Ran, plan_of}
use Rattle.lt_runner.specs.Run.{Play, IsRun, ended_as}
use Rattle.lt_runner.specs.Notes.{notes_in}
use Rattle.lt_runner.specs.Transcript.{Tells}
use Rattle.lt_crew.specs.Caller.{AsksStay}

-- one is not over
abbrev pub SomeLeft : List Seat → Type 0
SomeLeft seats = (index : ℕ) × (index < length seats) × ((d : Seat) → IsOver (slice_index_or seats index d) → ⊥)

-- the events so far, with all that may still be made: what is paid for, and a pass of retries for each step
abbrev pub bound_on : Setting → List Event → List Seat → ℕ
bound_on setting history seats =
    length history + sum_of (work setting) seats + sum_of steps seats * pass_cost setting.plan.trees (length seats)

-- there are places for all of them, and for one pass of retries more
abbrev pub HasRoomFor : Setting → List Event → List Seat → Type 0
HasRoomFor setting history seats =
    setting.plan.first + bound_on setting history seats + setting.plan.trees + pass_cost setting.plan.trees (length seats) < places_end

-- A round and the caller's turn behind it leave such a crew, nearer to its end: each that waits is registered, fewer steps are left, and
-- the bound did not rise.
pub record ComesNearer (setting : Setting) (before history : List Event) (registry registry_now : List Wish)
    (were are : List Seat) : Type 0 where
  pub stays : AsksStay setting before history registry registry_now were are
  pub count : length are ≡ length were
  pub listed : AllWaitersListed are
  pub nearer : sum_of steps are < sum_of steps were
  pub bound : bound_on setting history are ≤ bound_on setting before were

-- rounds lead from a crew of which none is registered to this one, with some registry
abbrev pub LeadsTo : Setting → List Event → List Event → List Seat → List Seat → Type 0
LeadsTo setting before history were are = (registry : List Wish) × AsksStay setting before history [] registry were are

-- the table that a trace asks for, of so many passes, with places from this one on and with these marks
abbrev pub setting_with : TraceView → ℕ → ℕ → List Key → Setting
setting_with trace passes first marks = record { plan = plan_of trace passes first; marks = marks }

-- A run of these lines by a crew: one legal history in which each transaction of the lines is played to its end and no other has
-- an event, with each search among those that waited. No lock is broken in it, and none is left at its end.
pub record IsCrewRun (setting : Setting) (lines : List Line) (history : List Event) (plays : List Play) : Type 0 where
  pub run : IsRun true setting lines history plays
  pub locks : KeepsLocks setting history
  pub nothing : (tree : ℕ) → (tree_at (after setting history) tree).pairs ≡ []

-- what it leaves
abbrev pub ran_by : Setting → List Event → List Play → Ran
ran_by setting history plays = record {
  receipts = all_receipts setting.plan.first history;
  outcomes = map ended_as plays;
  places = length history;
  used = used (after setting history);
}

-- the transcript tells exactly what such a run left
abbrev pub TellsCrewRun : Setting → List Line → Transcript → Type 0
TellsCrewRun setting lines transcript =
    (history : List Event) × (plays : List Play) × IsCrewRun setting lines history plays × Tells (ran_by setting history plays) transcript

-- the notes of the joins that it tells, by place
abbrev pub notes_told : Setting → Transcript → List JoinNote
notes_told setting transcript = notes_in setting (events_of transcript.receipts.items)
