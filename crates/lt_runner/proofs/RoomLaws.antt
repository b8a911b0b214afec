-- Room for a run is room for each part of it: no step takes events back.
use Rattle.std.proofs.Common.{◌≡◌, ℕ, ◌≤◌, List, [], ◌∷◌, ◌++◌, true, false, is_some, length, arith, length-append}
use Rattle.std.specs.List.{fold}
use Rattle.lt_ranges.specs.Numbers.{is_in}
use Rattle.lt_seq.specs.declared.event.Event.{Event}
use Rattle.lt_seq.specs.Table.{Setting}
use Rattle.lt_trace.specs.declared.line.Line.{Line}
use Rattle.lt_runner.specs.Serial.{Game, turn_of, settles, plays_next, plays_on, retried, swept, swept_if_released}
use Rattle.lt_runner.specs.Steps.{IsInOrder, KeepsMoves}
use Rattle.lt_runner.specs.Board.{HasRoom}
use Rattle.lt_runner.proofs.MoveLaws.{Holds, AnyOne, AreOf, keeps_of, holds_settles, holds_next, holds_on, holds_retried, holds_round, holds_swept, holds_swept_if}

-- at least so many events
abbrev pub Reaches : ℕ → Game → Type 0
Reaches count game = count ≤ length game.events

pub longer : (count : ℕ) (events more : List Event) → count ≤ length events → count ≤ length (events ++ more)
longer count events more le = omega (arith, length-append events more)

pub keeps_events : (setting : Setting) (txns : List ℕ) (count : ℕ) → KeepsMoves setting txns (Reaches count)
keeps_events setting txns count = record {
  plays = λ game turn line lines at le. longer count game.events _ le;
  gives = λ game turn r rs at le. longer count game.events _ le;
  marks = λ game released le. le;
}

pub begun : (setting : Setting) (txns : List ℕ) (game : Game) → IsInOrder setting txns game →
    Holds setting txns (Reaches (length game.events)) game
begun setting txns game order = record { order = order; is = omega arith }

pub room_before : (setting : Setting) (txns : List ℕ) (a b : Game) → length a.events ≤ length b.events → HasRoom setting txns b →
    HasRoom setting txns a
room_before setting txns a b le room = record { places = omega (arith, le, room.places) }

-- before a release
pub room_settles : (setting : Setting) (txns : List ℕ) (txn : ℕ) (game : Game) → is_in txn txns ≡ true → IsInOrder setting txns game →
    HasRoom setting txns (settles setting (turn_of setting txn game.turns) game) → HasRoom setting txns game
room_settles setting txns txn game number order room =
    let all = holds_settles setting txns AnyOne (Reaches (length game.events)) txn game (keeps_of setting txns _ (keeps_events setting txns (length game.events))) tt number (begun setting txns game order) in
    room_before setting txns game _ all.is room

-- the first of the lines that are played on
pub room_on : (setting : Setting) (txns : List ℕ) (txn : ℕ) (lines : List Line) (game : Game) → is_in txn txns ≡ true →
    IsInOrder setting txns game →
    HasRoom setting txns (plays_on setting txn lines game) → HasRoom setting txns game
room_on setting txns txn lines game number order room =
    let all = holds_on setting txns AnyOne (Reaches (length game.events)) txn lines game (keeps_of setting txns _ (keeps_events setting txns (length game.events))) tt number (begun setting txns game order) in
    room_before setting txns game _ all.is room

-- a round of those that wait
pub room_round : (setting : Setting) (txns left : List ℕ) (game : Game) → AreOf txns left → IsInOrder setting txns game →
    HasRoom setting txns (fold (retried setting) game left) → HasRoom setting txns game
room_round setting txns left game all order room =
    room_before setting txns game _ (holds_round setting txns (Reaches (length game.events)) left game (keeps_events setting txns (length game.events)) all (begun setting txns game order)).is room

rounds : (setting : Setting) (txns left : List ℕ) (game : Game) (count : ℕ) → Holds setting txns (Reaches count) game →
    Holds setting txns (Reaches count) (fold (λ game (txn : ℕ). swept_if_released setting txns game) game left)
rounds setting txns [] game count holds = holds
rounds setting txns (txn ∷ left) game count holds =
    rounds setting txns left (swept_if_released setting txns game) count (holds_swept_if setting txns (Reaches count) game (keeps_events setting txns count) holds)

-- the first of the sweeps
pub room_rounds : (setting : Setting) (txns left : List ℕ) (game : Game) → IsInOrder setting txns game →
    HasRoom setting txns (fold (λ game (txn : ℕ). swept_if_released setting txns game) game left) → HasRoom setting txns game
room_rounds setting txns left game order room = room_before setting txns game _ (rounds setting txns left game (length game.events) (begun setting txns game order)).is room

-- Orders.

ordered : (setting : Setting) (txns : List ℕ) (game : Game) → IsInOrder setting txns game → Holds setting txns (Reaches 0) game
ordered setting txns game order = record { order = order; is = omega arith }

pub order_settles : (setting : Setting) (txns : List ℕ) (txn : ℕ) (game : Game) → is_in txn txns ≡ true → IsInOrder setting txns game →
    IsInOrder setting txns (settles setting (turn_of setting txn game.turns) game)
order_settles setting txns txn game number order =
    (holds_settles setting txns AnyOne (Reaches 0) txn game (keeps_of setting txns _ (keeps_events setting txns 0)) tt number (ordered setting txns game order)).order

pub order_next : (setting : Setting) (txns : List ℕ) (txn : ℕ) (game : Game) → is_in txn txns ≡ true →
    is_some (turn_of setting txn game.turns).outcome ≡ false →
    IsInOrder setting txns game → IsInOrder setting txns (plays_next setting txn game)
order_next setting txns txn game number goes order =
    (holds_next setting txns AnyOne (Reaches 0) txn game (keeps_of setting txns _ (keeps_events setting txns 0)) tt number (ordered setting txns game order) goes).order

pub order_retried : (setting : Setting) (txns : List ℕ) (txn : ℕ) (game : Game) → is_in txn txns ≡ true →
    IsInOrder setting txns game → IsInOrder setting txns (retried setting game txn)
order_retried setting txns txn game number order =
    (holds_retried setting txns AnyOne (Reaches 0) game txn (keeps_of setting txns _ (keeps_events setting txns 0)) tt number (ordered setting txns game order)).order

pub order_swept_if : (setting : Setting) (txns : List ℕ) (game : Game) → IsInOrder setting txns game →
    IsInOrder setting txns (swept_if_released setting txns game)
order_swept_if setting txns game order =
    (holds_swept_if setting txns (Reaches 0) game (keeps_events setting txns 0) (ordered setting txns game order)).order

pub order_swept : (setting : Setting) (txns : List ℕ) (game : Game) → IsInOrder setting txns game →
    IsInOrder setting txns (swept setting txns game)
order_swept setting txns game order = (holds_swept setting txns (Reaches 0) game (keeps_events setting txns 0) (ordered setting txns game order)).order
