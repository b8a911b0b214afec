-- The notes that joins leave.
use Rattle.std.specs.Prelude.{◌≡◌, ℕ, List, [], ◌∷◌, ◌++◌, ◌==◌, if◌then◌else◌}
use Rattle.lt_seq.specs.declared.event.Event.{Event}
use Rattle.lt_seq.specs.declared.event.JoinNote.{JoinNote}
use Rattle.lt_seq.specs.Table.{Setting}
use Rattle.lt_seq.specs.History.{IsFront}
use Rattle.lt_seq.specs.Yard.{PassView, HasAll, IsSound, noted}
use Rattle.lt_trace.specs.Trace.{TraceView}
use Rattle.lt_runner.specs.Serial.{setting_of, game_of}

-- these notes, and those of the joins among the events, which stand behind others
abbrev pub notes_behind : Setting → List Event → List Event → List JoinNote → List JoinNote
notes_behind setting before [] notes = notes
notes_behind setting before (e ∷ es) notes = notes_behind setting (before ++ e ∷ []) es (noted setting before e.deed notes)

-- the notes of all joins of a history, by place
abbrev pub notes_in : Setting → List Event → List JoinNote
notes_in setting events = notes_behind setting [] events []

-- those of the plain scheduler's run
abbrev pub run_notes : TraceView → ℕ → List JoinNote
run_notes trace first = notes_in (setting_of trace 1 first) (game_of trace first).events

-- these notes, and those of the pass's own joins among the events, which stand behind others
abbrev pub own_behind : Setting → ℕ → List Event → List Event → List JoinNote → List JoinNote
own_behind setting pass before [] notes = notes
own_behind setting pass before (e ∷ es) notes =
    own_behind setting pass (before ++ e ∷ []) es (if e.pass == pass then noted setting before e.deed notes else notes)

-- the notes of a pass's own joins in a history, by place
abbrev pub notes_of : Setting → ℕ → List Event → List JoinNote
notes_of setting pass events = own_behind setting pass [] events []

-- the pass has the notes of its own joins
abbrev pub HasOwnNotes : Setting → PassView → Type 0
HasOwnNotes setting pass = pass.notes ≡ notes_of setting pass.number pass.front

-- After the call a pass has seen no less, and is sound where it was. Where it had the notes of its own joins it has them, and so
-- has a pass with all the rights those of all joins.
pub record KeepsNotes (setting : Setting) (old new : PassView) : Type 0 where
  pub rights : new.rights ≡ old.rights
  pub number : new.number ≡ old.number
  pub front : IsFront old.front new.front
  pub sound : IsSound setting old → IsSound setting new
  pub own : IsSound setting old → HasOwnNotes setting old → HasOwnNotes setting new
  pub notes : HasAll setting old → old.notes ≡ notes_in setting old.front → new.notes ≡ notes_in setting new.front
