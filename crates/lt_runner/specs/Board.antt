-- The scheduler's board: the transactions as they are played, and those of them that wait.
use Rattle.std.specs.Prelude.{◌≡◌, ◌≢◌, ℕ, ◌+◌, ◌<◌, ◌≤◌, List, [], ◌∷◌, map, length}
use Rattle.std.specs.Prelude.{nat_lt, filter, Bool, true, false, Some, Result, Ok, Err, slice_index_or, slice_set}
use Rattle.std.specs.List.{AllByRecursion}
use Rattle.std.specs.List.Sorted.{IsStrictlySortedBy}
use Rattle.std.specs.Ordering.{nat_cmp}
use Rattle.lt_ranges.specs.Numbers.{is_in}
use Rattle.lt_seq.specs.declared.event.Event.{Event}
use Rattle.lt_seq.specs.Table.{Setting}
use Rattle.lt_seq.specs.Yard.{Origin, origin_of, PassView, HasAll, IsPlan, IsSound, place_after, places_end}
use Rattle.lt_trace.specs.declared.line.Line.{Line}
use Rattle.lt_seq.specs.declared.fault.Fault.{Fault}
use Rattle.lt_seq.specs.declared.fault.Fault.TheVariants.{OutOfMemory, Busy, HistoryFull, OutOfLocks}
use Rattle.lt_requests.specs.declared.wish.Wish.{Wish}
use Rattle.lt_requests.specs.declared.started.Started.{Started}
use Rattle.lt_requests.specs.declared.started.Started.TheVariants.{Granted as StartedGranted, Waits, Deadlock}
use Rattle.lt_requests.specs.Registered.{without}
use Rattle.lt_requests.specs.Started.{HasAnswer}
use Rattle.lt_history.specs.declared.outcome.Outcome.TheVariants.{Deadlock as FoundDeadlock, OutOfLocks as StoppedAt}
use Rattle.lt_runner.specs.TurnView.{Turn, Seat}
use Rattle.lt_runner.specs.Turn.{ending}
use Rattle.lt_runner.specs.Seats.{idle, granted_at, with_line}
use Rattle.lt_runner.specs.Plays.{next_wish}
use Rattle.lt_runner.specs.Serial.{Game, game_at, turn_of, is_ready, wishes_in, line_move, does}
use Rattle.lt_runner.specs.Steps.{IsInOrder}
use Rattle.lt_runner.specs.Notes.{notes_in}

-- what contracts see of a board
pub record BoardView : Type 0 where
  -- of all transactions, ascending
  pub seats : List Seat
  -- what those that wait ask for
  pub registry : List Wish
  -- whether a transaction was released since the last sweep began
  pub released : Bool

abbrev pub turns_of : List Seat → List Turn
turns_of seats = map (λ seat. seat.turn) seats

-- the game that the board shows, behind these events
abbrev pub game_on : List Event → BoardView → Game
game_on events board = game_at events (turns_of board.seats) board.released

abbrev pub numbers_on : BoardView → List ℕ
numbers_on board = map (λ turn. turn.txn) (turns_of board.seats)

abbrev pub turn_on : Setting → ℕ → BoardView → Turn
turn_on setting txn board = turn_of setting txn (turns_of board.seats)

-- the transaction is on the board
pub record IsOn (txn : ℕ) (board : BoardView) : Type 0 where
  pub sorted : IsStrictlySortedBy nat_cmp (numbers_on board)
  pub number : is_in txn (numbers_on board) ≡ true

-- its last call was not refused, and it is registered exactly where it waits
pub record IsCalm (seat : Seat) : Type 0 where
  pub free : seat.busy ≡ false
  pub listed : seat.listed ≡ seat.turn.waits

-- the board of these transactions between two moves
pub record IsBoard (setting : Setting) (txns : List ℕ) (events : List Event) (board : BoardView) : Type 0 where
  pub order : IsInOrder setting txns (game_on events board)
  pub numbered : AllByRecursion (λ n. 1 ≤ n) txns
  pub calm : AllByRecursion IsCalm board.seats
  pub waiting : board.registry ≡ wishes_in (turns_of board.seats)

-- the board shows this game
pub record Shows (setting : Setting) (txns : List ℕ) (events : List Event) (board : BoardView) (game : Game) : Type 0 where
  pub stands : IsBoard setting txns events board
  pub game_is : game_on events board ≡ game

-- there are places behind the game's events for the joins of an ask, the ask and its search
pub record HasRoom (setting : Setting) (txns : List ℕ) (game : Game) : Type 0 where
  pub places : place_after setting game.events + setting.plan.trees + 1 + length txns ≤ places_end

-- the pass is of the table, has number 0 and all the rights, is sound, and has the notes of all joins
pub record HasTable (origin : Origin) (identity : List ℕ) (setting : Setting) (pass : PassView) : Type 0 where
  pub of : origin ≡ origin_of identity setting
  pub plan : IsPlan setting.plan
  pub number : pass.number ≡ 0
  pub right : 1 ≤ pass.rights
  pub all : HasAll setting pass
  pub sound : IsSound setting pass
  pub noted : pass.notes ≡ notes_in setting pass.front

-- the next of these lines, before the release that it may come to
abbrev pub moved_at : Setting → ℕ → List Line → Game → Game
moved_at setting txn [] game = game
moved_at setting txn (line ∷ lines) game =
    let turn = turn_of setting txn game.turns in does setting turn (line_move setting game turn line.deed) game

abbrev pub moved : Setting → ℕ → Game → Game
moved setting txn game = moved_at setting txn (turn_of setting txn game.turns).lines game

-- the numbers above this one
abbrev pub above : ℕ → List ℕ → List ℕ
above last txns = filter (λ n. nat_lt last n) txns

-- the transaction goes on, and a line of it is left
pub record GoesOn (setting : Setting) (txn : ℕ) (board : BoardView) : Type 0 where
  pub number : is_in txn (numbers_on board) ≡ true
  pub ready : is_ready (turn_on setting txn board) ≡ true
  pub left : (turn_on setting txn board).lines ≢ []

-- Answers at lock lines.

-- the ask at the transaction's next line, a lock line, came to this
pub record IsAnswer (txn : ℕ) (board : BoardView) (started : Result Started Fault) : Type 0 where
  pub wish : Wish
  pub lock : (setting : Setting) → next_wish (turn_on setting txn board).txn (turn_on setting txn board).lines ≡ Some wish
  pub tree : (setting : Setting) → wish.tree < length (turn_on setting txn board).recorded
  pub few : (setting : Setting) → length (turn_on setting txn board).recorded ≤ 16
  pub has : HasAnswer started

-- what it makes of the transaction
abbrev pub seat_so : Turn → Result Started Fault → Seat
seat_so turn (Ok (StartedGranted place buffered)) = idle (granted_at turn buffered)
seat_so turn (Ok (Waits owners)) = record { turn = record turn { waits = true }; busy = false; listed = true }
seat_so turn (Ok (Deadlock walk)) = idle (ending (FoundDeadlock walk) turn)
seat_so turn (Err OutOfMemory) = idle turn
seat_so turn (Err (Busy row holder)) = idle turn
seat_so turn (Err (HistoryFull place)) = idle turn
seat_so turn (Err (OutOfLocks place used_rows)) = idle (ending (StoppedAt place used_rows) turn)

-- one that was out of locks does not wait any more
abbrev pub registry_so : ℕ → List Wish → Result Started Fault → List Wish
registry_so txn wishes (Ok started) = wishes
registry_so txn wishes (Err OutOfMemory) = wishes
registry_so txn wishes (Err (Busy row holder)) = wishes
registry_so txn wishes (Err (HistoryFull place)) = wishes
registry_so txn wishes (Err (OutOfLocks place used_rows)) = without txn wishes

-- it has one
abbrev pub IsAnswered : Result Started Fault → Type 0
IsAnswered (Ok started) = Unit {0}
IsAnswered (Err OutOfMemory) = ⊥
IsAnswered (Err (Busy row holder)) = ⊥
IsAnswered (Err (HistoryFull place)) = ⊥
IsAnswered (Err (OutOfLocks place used_rows)) = Unit {0}

-- and of the board
pub record IsTaken (txn : ℕ) (started : Result Started Fault) (old new : BoardView) : Type 0 where
  pub answered : IsAnswered started
  pub place : ℕ
  pub inside : place < length old.seats
  pub number : (d : Seat) → (slice_index_or old.seats place d).turn.txn ≡ txn
  pub seats : (setting : Setting) → new.seats ≡ slice_set old.seats place (seat_so (turn_on setting txn old) started)
  pub registry : new.registry ≡ registry_so txn old.registry started
  pub released : new.released ≡ old.released

-- a line is put behind the others of its transaction
pub record IsLinePut (line : Line) (old new : BoardView) : Type 0 where
  pub place : ℕ
  pub inside : place < length old.seats
  pub number : (d : Seat) → (slice_index_or old.seats place d).turn.txn ≡ line.txn
  pub board : (d : Seat) → new ≡ record old { seats = slice_set old.seats place (with_line line (slice_index_or old.seats place d)) }
