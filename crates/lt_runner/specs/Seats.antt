-- What the calls of a turn make of it.
use Rattle.std.specs.Prelude.{ℕ, List, [], ◌∷◌, ◌++◌, Option, Some, None, Bool, false, replicate}
use Rattle.lt_trace.specs.declared.line.Line.{Line}
use Rattle.lt_requests.specs.declared.wish.Wish.{Wish}
use Rattle.lt_runner.specs.TurnView.{Turn, Seat}
use Rattle.lt_runner.specs.Turn.{nothing_recorded, granted_to}
use Rattle.lt_runner.specs.Plays.{next_wish}

-- its last call was not refused, and it is not registered
abbrev pub idle : Turn → Seat
idle turn = record { turn = turn; busy = false; listed = false }

-- a transaction of these lines that has not begun, for so many trees
abbrev pub opening_seat : ℕ → ℕ → List Line → Seat
opening_seat trees txn lines = idle (record {
  txn = txn;
  lines = lines;
  waits = false;
  recorded = replicate trees nothing_recorded;
  outcome = None;
  releases = [];
  big = false;
})

-- a line is put behind the others
abbrev pub with_line : Line → Seat → Seat
with_line line seat = record seat { turn = record seat.turn { lines = seat.turn.lines ++ line ∷ [] } }

-- the range of its next line, which waits for it, is recorded
abbrev pub granted_at : Turn → Bool → Turn
granted_at turn buffered = by_wish (next_wish turn.txn turn.lines)
  where
    by_wish : Option Wish → Turn
    by_wish None = turn
    by_wish (Some wish) = granted_to wish.tree wish.range buffered turn

-- several lines are put behind the others
abbrev pub with_lines : List Line → Seat → Seat
with_lines lines seat = record seat { turn = record seat.turn { lines = seat.turn.lines ++ lines } }
