-- A deed of a table of trees, made by its pass.
use Rattle.std.specs.Prelude.{◌≡◌, ℕ, List, [], ◌∷◌, ◌++◌}
use Rattle.lt_seq.specs.declared.event.Deed.{Deed}
use Rattle.lt_seq.specs.declared.event.Deed.TheVariants.{Join}
use Rattle.lt_seq.specs.declared.event.Event.{Event}
use Rattle.lt_seq.specs.declared.event.JoinNote.{JoinNote}
use Rattle.lt_rows.specs.Plan.{setting_of}
use Rattle.lt_seq.specs.Yard.{note_after}
use Rattle.lt_rows.specs.declared.image.RowImage.{RowImage}
use Rattle.lt_rows.specs.declared.view.View.{View}
use Rattle.lt_tree.specs.States.{OnlyRows, SeesOn}
use Rattle.lt_locktree.specs.declared.asking.Asking.{Asking}
use Rattle.lt_locktree.specs.Makes.{Makes}

-- the event of the asking pass
abbrev pub asked_event : Asking → Deed → Event
asked_event a deed = record { pass = a.pass; txn = a.txn; deed = deed }

-- With rows that were taken besides the pass has made the event, and all rows have been given back.
abbrev pub MakesDeed : View → View → Asking → Deed → ℕ → Type 0
MakesDeed v w a deed place =
    (u : View) × (plan : List RowImage) × OnlyRows v u × Makes u w plan (asked_event a deed) place

-- A search has led there, on which it may have seen what others made.
abbrev pub ReachesDeed : View → View → Asking → Deed → ℕ → Type 0
ReachesDeed v w a deed place = (u : View) × SeesOn v u × MakesDeed u w a deed place

-- A join, with its note: the pairs are the tree's behind it.
abbrev pub MakesJoin : View → View → Asking → JoinNote → Type 0
MakesJoin v w a note =
    MakesDeed v w a (Join a.tree note.before note.after) note.place
    × (before : List Event) × (w.front ≡ before ++ asked_event a (Join a.tree note.before note.after) ∷ [])
    × (note ≡ note_after (setting_of v.plan) before a.tree)
