-- What contracts see of a pass.
use Rattle.std.specs.Prelude.{◌≡◌, ℕ, ◌-◌, List, ◌∷◌}
use Rattle.atomic_table.specs.Seated.{TableId}
use Rattle.lt_rows.specs.declared.row_plan.RowPlan.{RowPlan}
use Rattle.lt_seq.specs.declared.event.Receipt.{Receipt}
use Rattle.lt_seq.specs.declared.event.JoinNote.{JoinNote}
use Rattle.lt_seq.specs.History.{IsLegal}
use Rattle.lt_rows.specs.Plan.{setting_of}
use Rattle.lt_seq.specs.Yard.{PassView, NoteView, Origin, origin_of, IsSound}
use Rattle.lt_rows.specs.declared.view.View.{View}
use Rattle.lt_rows.specs.declared.note.RowNote.{RowNote}
use Rattle.lt_rows.specs.Passes.{view}
use Rattle.lt_rows.specs.Handles.{IsNoteOf}
use Rattle.lt_locktree.specs.declared.locktree.Locktree.{Locktree}
use Rattle.lt_locktree.specs.declared.tree_pass.TreePass.{TreePass}
use Rattle.lt_locktree.specs.Calls.{sees}

-- a pass with its receipts and its notes
pub record Kept : Type 0 where
  pub pass : TreePass
  pub mine : List Receipt
  pub notes : List JoinNote

-- the view of the rows in the words of a yard
abbrev pub view_with : View → List Receipt → List JoinNote → PassView
view_with v mine notes = record {
  number = v.mark - 1;
  rights = v.rights;
  met = v.met;
  met_row = v.met_row;
  met_holder = v.met_mark - 1;
  front = v.front;
  mine = mine;
  notes = notes;
}

abbrev pub view_of : Kept → PassView
view_of p = view_with (sees p.pass) p.mine p.notes

-- what tells a table from others
abbrev pub identity_of : TableId → List ℕ
identity_of id = id.words ∷ id.slots ∷ id.views_name ∷ id.atom ∷ id.block ∷ id.offset ∷ id.slot_names

abbrev pub origin_in : Kept → Origin
origin_in p = origin_of (identity_of p.pass.pass.place.table_id) (setting_of (sees p.pass).plan)

-- the origin of the passes and notes of a table
abbrev pub origin_at : Locktree → Origin
origin_at t = origin_of (identity_of t.rows.table.shared.table_id) (setting_of t.rows.plan)

abbrev pub IsPassOfTable : Locktree → Kept → Type 0
IsPassOfTable t p = origin_in p ≡ origin_at t

-- its front is a legal history, and its receipts are of its own events there
abbrev pub IsKept : Kept → Type 0
IsKept p = IsSound (setting_of (sees p.pass).plan) (view_of p)

-- a note of the rows
pub record Noted : Type 0 where
  pub note : RowNote

-- the plan of its table
abbrev pub plan_of : Noted → RowPlan
plan_of n = (view n.note.place).plan

abbrev pub told_by : Noted → NoteView
told_by n = record { rights = n.note.rights; front = (view n.note.place).front }

abbrev pub note_origin : Noted → Origin
note_origin n = origin_of (identity_of n.note.place.table_id) (setting_of (plan_of n))

-- its front is a legal history
abbrev pub IsNoted : Noted → Type 0
IsNoted n = IsLegal (setting_of (plan_of n)) (view n.note.place).front

-- the note was made for this table
abbrev pub IsNoteOfTable : Locktree → Noted → Type 0
IsNoteOfTable t n = IsNoteOf t.rows n.note × (plan_of n ≡ t.rows.plan)
