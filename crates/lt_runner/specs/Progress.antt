-- How far one play brings a turn.
use Rattle.std.specs.Prelude.{◌≡◌, ◌<◌, length, true, Result, Ok, Err}
use Rattle.lt_seq.specs.declared.fault.Fault.{Fault}
use Rattle.lt_seq.specs.declared.fault.Fault.TheVariants.{OutOfMemory, Busy, HistoryFull, OutOfLocks}
use Rattle.lt_runner.specs.declared.turn.Moved.{Moved}
use Rattle.lt_runner.specs.declared.turn.Moved.TheVariants.{Played, Held, Ended}
use Rattle.lt_runner.specs.TurnView.{Seat}

-- its lines are left as they were, and its last call was refused
pub record IsRefused (was is : Seat) : Type 0 where
  pub lines : is.turn.lines ≡ was.turn.lines
  pub busy : is.busy ≡ true

-- After Played fewer lines are left, and after the other answers all of them.
abbrev pub IsFarther : Seat → Seat → Result Moved Fault → Type 0
IsFarther was is (Ok Played) = length is.turn.lines < length was.turn.lines
IsFarther was is (Ok Held) = is.turn.lines ≡ was.turn.lines
IsFarther was is (Ok Ended) = is.turn.lines ≡ was.turn.lines
IsFarther was is (Err OutOfMemory) = Unit {0}
IsFarther was is (Err (Busy row holder)) = IsRefused was is
IsFarther was is (Err (HistoryFull place)) = IsRefused was is
IsFarther was is (Err (OutOfLocks place used_rows)) = ⊥
