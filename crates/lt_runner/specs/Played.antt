-- What a transaction has done so far, while it is still played. For proofs and the contracts of a turn.
use Rattle.std.specs.Prelude.{◌≡◌, ◌≢◌, ℕ, ◌<◌, ◌≤◌, List, [], ◌∷◌, Contains, map, is_some, Bool, true, false, IsTrue, if◌then◌else◌}
use Rattle.std.specs.List.{AllByRecursion, flat_map}
use Rattle.lt_ranges.specs.Numbers.{is_in}
use Rattle.lt_seq.specs.declared.event.Event.{Event}
use Rattle.lt_seq.specs.declared.event.Receipt.{Receipt}
use Rattle.lt_seq.specs.Table.{Setting}
use Rattle.lt_seq.specs.History.{IsLegal}
use Rattle.lt_seq.specs.Yard.{place_after}
use Rattle.lt_seq.specs.Questions.{receipts_of}
use Rattle.lt_trace.specs.declared.line.Line.{Line}
use Rattle.lt_trace.specs.Grammar.{txns_of}
use Rattle.lt_requests.specs.declared.wish.Wish.{Wish}
use Rattle.lt_runner.specs.TurnView.{Seat}
use Rattle.lt_runner.specs.Turn.{Move, leaves, asks, waits, stops, escalates, grows, ends, frees, receipts_in, turn_after}
use Rattle.lt_runner.specs.Plays.{Past, Stage, stage_after, stage_after_all, is_lock, IsMove, ArePlayed, opening_stage, lines_for}
use Rattle.lt_runner.specs.Run.{moves_before, IsListedRightly}

-- each of these came no later than the history's next event
abbrev pub AreInside : Setting → List Event → List Receipt → Type 0
AreInside setting history receipts = AllByRecursion (λ r. r.place ≤ place_after setting history) receipts

-- So lie the places at which the rules of the move look at the table: a longer history shows the same there. The look of one
-- that is out of locks has its bound in its own rule, and the rules of the others look at no place.
abbrev pub IsInside : Setting → List Event → Move → Type 0
IsInside setting history (leaves joins) = AreInside setting history joins
IsInside setting history (asks joins ask) = (ask.place ≤ place_after setting history) × AreInside setting history joins
IsInside setting history (waits joins ask wishes search) = (ask.place ≤ place_after setting history) × AreInside setting history joins
IsInside setting history (stops joins place used_rows) = AreInside setting history joins
IsInside setting history (escalates join) = Unit {0}
IsInside setting history grows = Unit {0}
IsInside setting history ends = Unit {0}
IsInside setting history (frees free) = Unit {0}

-- the first of these has this place or a later one
abbrev pub IsFirstFrom : ℕ → List Receipt → Type 0
IsFirstFrom from [] = ⊥
IsFirstFrom from (r ∷ rs) = from ≤ r.place

-- where the move has a place, it is this one or a later one
abbrev pub IsLate : ℕ → Move → Type 0
IsLate from (leaves joins) = IsFirstFrom from joins
IsLate from (asks joins ask) = from ≤ ask.place
IsLate from (waits joins ask wishes search) = from ≤ ask.place
IsLate from (stops joins place used_rows) = from ≤ place
IsLate from (escalates join) = from ≤ join.place
IsLate from grows = Unit {0}
IsLate from ends = Unit {0}
IsLate from (frees free) = from ≤ free.place

-- The past lies in the history, and fits the seat: one that goes on has not been held at its line, joins are left only where the last
-- call was refused, and in a crew's run one that is not registered was held once at most.
pub record IsPastAt (crew : Bool) (setting : Setting) (history : List Event) (seat : Seat) (past : Past) : Type 0 where
  pub seen : past.since ≤ place_after setting history
  pub held : seat.turn.waits ≡ false → past.held ≡ 0
  pub left : seat.busy ≡ false → past.left ≡ false
  pub once : seat.listed ≡ false → past.held ≤ (if crew then 1 else 0)

-- a search that a transaction made, at the place of its ask
pub record Search : Type 0 where
  pub txn : ℕ
  pub place : ℕ
  pub wishes : List Wish

-- the transaction is listed rightly in the searches of others
abbrev pub AreListed : Bool → List Search → Stage → List Move → Type 0
AreListed crew searches opening moves =
    AllByRecursion (λ s. s.txn ≢ opening.turn.txn → IsListedRightly crew (stage_after_all opening (moves_before s.place moves)) s.wishes) searches

-- a search of the move is among these
abbrev pub IsAmong : List Search → ℕ → Move → Type 0
IsAmong searches txn (waits joins ask wishes found) = Contains searches (record { txn = txn; place = ask.place; wishes = wishes })
IsAmong searches txn (leaves joins) = Unit {0}
IsAmong searches txn (asks joins ask) = Unit {0}
IsAmong searches txn (stops joins place used_rows) = Unit {0}
IsAmong searches txn (escalates join) = Unit {0}
IsAmong searches txn grows = Unit {0}
IsAmong searches txn ends = Unit {0}
IsAmong searches txn (frees free) = Unit {0}

-- the next line is a lock line
abbrev pub IsAtLock : List Line → Type 0
IsAtLock [] = ⊥
IsAtLock (line ∷ lines) = IsTrue (is_lock line.deed)

-- it waits at a lock line alone, and has been held there; one that goes on has not
pub record IsAtLine (stage : Stage) : Type 0 where
  pub lock : IsTrue stage.turn.waits → IsAtLock stage.turn.lines
  pub held : stage.turn.waits ≡ false → stage.past.held ≡ 0

-- Moves have brought the transaction from its opening here, and these are their receipts. The history may have any events of
-- others besides. It is listed rightly in each search of another, and its own are among them.
pub record HasCome (crew : Bool) (setting : Setting) (searches : List Search) (history : List Event)
    (opening : Stage) (seat : Seat) (receipts : List Receipt) : Type 0 where
  pub moves : List Move
  pub played : ArePlayed crew setting history opening moves
  pub inside : AllByRecursion (IsInside setting history) moves
  pub listed : AreListed crew searches opening moves
  pub own : AllByRecursion (IsAmong searches opening.turn.txn) moves
  pub here : (stage_after_all opening moves).turn ≡ seat.turn
  pub past : IsPastAt crew setting history seat (stage_after_all opening moves).past
  pub made : flat_map receipts_in moves ≡ receipts

-- one move between two histories, whatever past the turn has
pub record MovesBy (crew : Bool) (setting : Setting) (old_history new_history : List Event) (old new : Seat)
    (made : List Receipt) (move : Move) : Type 0 where
  pub may : (past : Past) → IsPastAt crew setting old_history old past
      → IsMove crew setting new_history (record { turn = old.turn; past = past }) old.turn.lines move
  pub turn : new.turn ≡ turn_after old.turn move
  pub inside : IsInside setting new_history move
  pub late : IsLate (place_after setting old_history) move
  pub past : (past : Past) → IsPastAt crew setting old_history old past
      → IsPastAt crew setting new_history new (stage_after (record { turn = old.turn; past = past }) move).past
  pub made_by : made ≡ receipts_in move

-- The searches of others were all before the place, and these are among all.
pub record Fits (searches found : List Search) (from txn : ℕ) : Type 0 where
  pub before : AllByRecursion (λ s. s.txn ≢ txn → s.place < from) searches
  pub among : (s : Search) → Contains found s → Contains searches s

-- what the transaction has come to, of the lines of a trace
abbrev pub Stands : Bool → Setting → List Search → List Line → List Event → Seat → Type 0
Stands crew setting searches lines history seat =
    HasCome crew setting searches history (opening_stage setting seat.turn.txn (lines_for seat.turn.txn lines)) seat
    (receipts_of setting.plan.first seat.turn.txn history)

-- it has ended, and has given back all
abbrev pub IsOver : Seat → Type 0
IsOver seat = (is_some seat.turn.outcome ≡ true) × (seat.turn.releases ≡ [])

-- all transactions of a trace, half played, in one legal history
pub record AllStand (crew : Bool) (setting : Setting) (searches : List Search) (lines : List Line)
    (history : List Event) (seats : List Seat) : Type 0 where
  pub legal : IsLegal setting history
  pub numbers : map (λ seat. seat.turn.txn) seats ≡ txns_of lines
  pub stand : AllByRecursion (Stands crew setting searches lines history) seats
  pub own : AllByRecursion (λ e. IsTrue (is_in e.txn (txns_of lines))) history
