-- What a deed comes to in the words of a yard.
use Rattle.std.specs.Prelude.{◌≡◌, ℕ, ◌+◌, ◌-◌, ◌≤◌, [], ◌∷◌, ◌++◌}
use Rattle.lt_seq.specs.declared.event.Deed.{Deed}
use Rattle.lt_seq.specs.declared.event.JoinNote.{JoinNote}
use Rattle.lt_seq.specs.declared.fault.Fault.{Fault}
use Rattle.lt_seq.specs.History.{after, calls_from, IsNext}
use Rattle.lt_rows.specs.Plan.{setting_of}
use Rattle.lt_rows.specs.declared.view.View.{View}
use Rattle.lt_tree.specs.States.{SeesOn, IsRefused}
use Rattle.lt_locktree.specs.declared.asking.Asking.{Asking}
use Rattle.lt_locktree.specs.Calls.{Makes, Joins, Leaves, event_of}
use Rattle.lt_locktree.specs.Deeds.{ReachesDeed, MakesJoin}

-- a pass that makes an event has made this call more
abbrev pub MakesOneCall : Type 0
MakesOneCall =
    (v w : View) (txn : ℕ) (deed : Deed) (place : ℕ) → Makes v w txn deed place → v.numbers ≡ 1 → 1 ≤ v.mark
    → calls_from v.plan.first (v.mark - 1) w.front
    ≡ calls_from v.plan.first (v.mark - 1) v.front ++ record { place = place; event = event_of v txn deed } ∷ []

-- and its replies are the sequential table's, behind what was new to it
abbrev pub MakesNext : Type 0
MakesNext =
    (v w : View) (txn : ℕ) (deed : Deed) (place : ℕ) (made : Makes v w txn deed place)
    → IsNext (setting_of v.plan) (after (setting_of v.plan) (v.front ++ made.rest)) (event_of v txn deed)

-- what the asking pass has made, with a number below the passes, is a call's event
abbrev pub DeedIsMade : Type 0
DeedIsMade =
    (v w : View) (a : Asking) (deed : Deed) (place : ℕ)
    → ReachesDeed v w a deed place → a.pass + 1 ≡ v.mark → v.mark ≤ v.plan.passes → Makes v w a.txn deed place

-- and a refusal leaves the history as it was, but for what others made
abbrev pub DeedIsRefused : Type 0
DeedIsRefused = (v w : View) (fault : Fault) → SeesOn v w → IsRefused v w fault → Leaves v w fault

-- A join with its note is a call's, with the note of the history behind which it stands.
abbrev pub JoinIsMade : Type 0
JoinIsMade =
    (v w : View) (a : Asking) (note : JoinNote)
    → MakesJoin v w a note → a.pass + 1 ≡ v.mark → v.mark ≤ v.plan.passes → Joins v w a.txn a.tree note
