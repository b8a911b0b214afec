-- What calls answer behind a look that the caller knows.
use Rattle.std.specs.Prelude.{◌≡◌, ℕ, List, Result, Ok, Err}
use Rattle.lt_seq.specs.declared.event.Deed.{Deed}
use Rattle.lt_seq.specs.declared.event.Event.{Event}
use Rattle.lt_seq.specs.declared.event.Receipt.{Receipt}
use Rattle.lt_seq.specs.declared.fault.Fault.{Fault}
use Rattle.lt_seq.specs.Table.{Setting}
use Rattle.lt_seq.specs.Yard.{PassView, Happens, FaultAt, Caused}

-- the event of a call, or why there was none, where the call's last look saw this
abbrev pub AnsweredBehind : Setting → List Event → PassView → PassView → ℕ → Deed → Result Receipt Fault → Type 0
AnsweredBehind setting seen old new txn deed (Ok receipt) = (made : Happens setting old new txn deed receipt) × (made.seen ≡ seen)
AnsweredBehind setting seen old new txn deed (Err fault) =
    (left : FaultAt setting old new (Caused setting old new fault)) × (left.seen ≡ seen)
