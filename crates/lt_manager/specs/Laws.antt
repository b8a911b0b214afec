-- A pass that has seen more.
use Rattle.std.specs.Prelude.{◌≡◌, ℕ, ◌≤◌, ◌<◌, List, [], ◌∷◌, ◌++◌}
use Rattle.lt_seq.specs.declared.event.Deed.{Deed}
use Rattle.lt_seq.specs.declared.event.Event.{Event}
use Rattle.lt_seq.specs.declared.fault.Fault.{Fault}
use Rattle.lt_seq.specs.declared.event.Receipt.{Receipt}
use Rattle.lt_seq.specs.declared.event.JoinNote.{JoinNote}
use Rattle.lt_seq.specs.History.{IsLegal}
use Rattle.lt_rows.specs.Plan.{setting_of}
use Rattle.lt_seq.specs.Questions.{question}
use Rattle.lt_seq.specs.Yard.{PassView, IsSound, Watches, Happens, FaultAt, Caused, noted, place_after, places_end}
use Rattle.lt_rows.specs.declared.view.View.{View}
use Rattle.lt_rows.specs.Rule.{IsOfOthers}
use Rattle.lt_locktree.specs.Calls.{Makes, Leaves, event_of}
use Rattle.lt_manager.specs.Views.{view_with}

-- Where others made what was new, and the longer history is legal, the pass's receipts are those of its own events there.
abbrev pub StaysSound : Type 0
StaysSound =
    (v w : View) (rest : List Event) (mine : List Receipt) (notes : List JoinNote)
    → v.numbers ≡ 1 → 1 ≤ v.mark → w.plan ≡ v.plan → w.mark ≡ v.mark → w.front ≡ v.front ++ rest
    → IsOfOthers v rest → IsLegal (setting_of v.plan) (v.front ++ rest)
    → IsSound (setting_of v.plan) (view_with v mine notes) → IsSound (setting_of w.plan) (view_with w mine notes)

-- A pass that looked, and then made a deed's event, answers it as a yard does.
abbrev pub DeedHappens : Type 0
DeedHappens =
    (u w : View) (old : PassView) (mine : List Receipt) (notes notes' : List JoinNote) (txn place : ℕ) (deed : Deed)
    → u.numbers ≡ 1 → 1 ≤ u.mark → Watches (setting_of u.plan) old (view_with u mine notes) → place_after (setting_of u.plan) u.front < places_end
    → (made : Makes u w txn deed place) → notes' ≡ noted (setting_of u.plan) (u.front ++ made.rest) (question deed) old.notes
    → Happens (setting_of u.plan) old (view_with w (mine ++ record { place = place; event = event_of u txn deed } ∷ []) notes') txn
    (question deed) record { place = place; event = event_of u txn deed }

-- And one that made none gives its cause as a yard does.
abbrev pub DeedIsLeft : Type 0
DeedIsLeft =
    (u w : View) (old : PassView) (mine : List Receipt) (notes : List JoinNote) (fault : Fault)
    → u.numbers ≡ 1 → 1 ≤ u.mark → Watches (setting_of u.plan) old (view_with u mine notes) → place_after (setting_of u.plan) u.front < places_end
    → Leaves u w fault
    → FaultAt (setting_of u.plan) old (view_with w mine notes) (Caused (setting_of u.plan) old (view_with w mine notes) fault)
