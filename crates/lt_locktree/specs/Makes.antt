-- An event that a search ends with.
use Rattle.std.specs.Prelude.{◌≡◌, ℕ, ◌<◌, List, [], length}
use Rattle.lt_ranges.specs.Interval.{Interval}
use Rattle.lt_seq.specs.declared.event.Event.{Event}
use Rattle.lt_seq.specs.declared.event.Reply.{Reply}
use Rattle.lt_seq.specs.declared.event.Reply.TheVariants.{Granted, Buffered, HeldBy}
use Rattle.lt_rows.specs.declared.image.RowImage.{RowImage}
use Rattle.lt_rows.specs.declared.pass.RowPass.{RowPass}
use Rattle.lt_rows.specs.declared.view.View.{View}
use Rattle.lt_rows.specs.Handles.{Commits}
use Rattle.lt_tree.specs.States.{OnlyHeld}
use Rattle.lt_locktree.specs.declared.asking.Asking.{Asking}

-- the asking is of this pass, in this tree, for this range
abbrev pub IsOf : RowPass → ℕ → Interval → Asking → Type 0
IsOf pass tree range a = (a.pass ≡ pass.number) × (a.tree ≡ tree) × (a.range ≡ range)

-- the pass has made the event with this plan, and all rows have been given back since then
abbrev pub Makes : View → View → List RowImage → Event → ℕ → Type 0
Makes v w plan e place = (u : View) × Commits v u plan e place × OnlyHeld u w

-- the reply of an ask that these others stand against
abbrev pub IsReplyTo : List ℕ → Reply → Type 0
IsReplyTo others Granted = others ≡ []
IsReplyTo others Buffered = ⊥
IsReplyTo others (HeldBy owners) = (owners ≡ others) × (0 < length others)
