-- What the pass of a plain table keeps.
use Rattle.std.specs.Prelude.{◌≡◌, ℕ, ◌+◌, ◌≤◌, List, [], length}
use Rattle.lt_seq.specs.declared.event.JoinNote.{JoinNote}
use Rattle.lt_seq.specs.declared.event.Receipt.{Receipt}
use Rattle.lt_seq.specs.declared.plan.YardPlan.{YardPlan}
use Rattle.lt_seq.specs.Table.{Setting, TreeState}
use Rattle.lt_seq.specs.History.{after, IsLegal, calls_from}
use Rattle.lt_seq.specs.Questions.{events_of}
use Rattle.lt_seq.specs.Yard.{IsPlan, Origin, PassView, NoteView, places_end}

-- no marks are set
abbrev pub plain : YardPlan → Setting
plain plan = record { plan = plan; marks = [] }

-- a pass with the plan of its yard
pub record Planned : Type 0 where
  pub plan : YardPlan
  pub view : PassView

-- a yard of one pass needs no name
abbrev pub origin_in : Planned → Origin
origin_in pass = record { identity = []; setting = plain pass.plan }

-- The one pass meets no other, and its own calls are the whole history.
abbrev pub alone_view : ℕ → ℕ → List Receipt → List JoinNote → PassView
alone_view number rights made notes =
    record { number = number; rights = rights; met = 0; met_row = 0; met_holder = 0; front = events_of made; mine = made; notes = notes }

-- a note with the plan of its yard: it tells the one pass nothing new
pub record PlannedNote : Type 0 where
  pub plan : YardPlan
  pub view : NoteView

abbrev pub note_origin : PlannedNote → Origin
note_origin note = record { identity = []; setting = plain note.plan }

-- the trees are those after the pass's own events
pub record IsSequential (sizes : YardPlan) (number rights : ℕ) (now : List TreeState) (made : List Receipt) : Type 0 where
  pub plan : IsPlan sizes
  pub passes : sizes.passes ≡ 1
  pub first : number ≡ 0
  pub rights_most : rights ≤ 1
  pub trees : now ≡ after (plain sizes) (events_of made)
  pub legal : IsLegal (plain sizes) (events_of made)
  pub mine : made ≡ calls_from sizes.first number (events_of made)
  pub room : sizes.first + length made ≤ places_end
