-- What a call of a pass comes to behind its look.
use Rattle.std.specs.Prelude.{◌≡◌, ℕ, ◌<◌, ◌≤◌}
use Rattle.lt_seq.specs.declared.event.Look.{Look}
use Rattle.lt_seq.specs.declared.fault.Fault.{Fault}
use Rattle.lt_seq.specs.declared.fault.Fault.TheVariants.{OutOfMemory, Busy, HistoryFull, OutOfLocks}
use Rattle.lt_seq.specs.Yard.{places_end}
use Rattle.lt_rows.specs.declared.view.View.{View}
use Rattle.lt_rows.specs.Handles.{Looks}
use Rattle.lt_locktree.specs.Calls.{Leaves}

-- The pass looked, this showed a place for an event, and then something happened.
pub record Behind (v : View) (Happens : View → Look → Type 0) : Type 0 where
  pub seen : View
  pub look : Look
  pub looks : Looks v seen look
  pub room : look.place < places_end
  pub happens : Happens seen look

-- The look of the pass showed a place from which on no call makes an event.
pub record IsFull (v w : View) (place : ℕ) : Type 0 where
  pub look : Look
  pub looks : Looks v w look
  pub place_is : place ≡ look.place
  pub full : places_end ≤ place

-- it made no event behind its look
abbrev pub LeavesBehind : View → View → Fault → Type 0
LeavesBehind v w fault = Behind v (λ seen look. Leaves seen w fault)

-- why a call other than an ask made no event
abbrev pub Faults : View → View → Fault → Type 0
Faults v w OutOfMemory = LeavesBehind v w OutOfMemory
Faults v w (Busy row holder) = LeavesBehind v w (Busy row holder)
Faults v w (HistoryFull place) = IsFull v w place
Faults v w (OutOfLocks place used) = ⊥
