-- What is known of a transaction of a crew that stands half played: what its turn is, and what it holds.
use Rattle.std.specs.Prelude.{◌≡◌, ◌⊎◌, ℕ, ◌≤◌, List, map, length, is_some, true, false, Some}
use Rattle.std.specs.List.{AllByRecursion}
use Rattle.std.specs.List.Sorted.{IsStrictlySortedBy}
use Rattle.std.specs.Ordering.{nat_cmp}
use Rattle.lt_seq.specs.declared.event.Event.{Event}
use Rattle.lt_seq.specs.Table.{Setting, tree_at}
use Rattle.lt_seq.specs.History.{after, IsLegal}
use Rattle.lt_trace.specs.declared.line.Line.{Line}
use Rattle.lt_trace.specs.Grammar.{txns_of}
use Rattle.lt_requests.specs.declared.wish.Wish.{Wish}
use Rattle.lt_runner.specs.TurnView.{Turn, Seat}
use Rattle.lt_runner.specs.Plays.{has_last, next_wish}
use Rattle.lt_runner.specs.Played.{Search, IsAtLock, Stands, IsOver, AllStand}
use Rattle.lt_runner.specs.Due.{OverlapsOne, due_in}
use Rattle.lt_runner.specs.Steps.{IsSteady, IsFitDeed, IsInOrder}
use Rattle.lt_runner.specs.Serial.{game_at}
use Rattle.lt_runner.specs.Settles.{OwnersWait}
use Rattle.lt_runner.specs.Board.{turns_of}

-- the deeds of the lines may be done over the table
abbrev pub AreFitDeeds : Setting → List Line → Type 0
AreFitDeeds setting lines = AllByRecursion (λ line. IsFitDeed setting line.deed) lines

-- Its turn is steady, and until it has ended the line that ends it is left.
pub record IsStanding (setting : Setting) (turn : Turn) : Type 0 where
  pub steady : IsSteady setting turn
  pub last : is_some turn.outcome ≡ false → has_last turn.lines ≡ true

abbrev pub SeatsStand : Type 0
SeatsStand =
    (setting : Setting) (searches : List Search) (lines : List Line) (history : List Event) (seat : Seat)
    → AreFitDeeds setting lines → Stands true setting searches lines history seat → IsStanding setting seat.turn

-- One that waits does so at a lock line, for which it has a wish, and the line that ends it is left besides.
abbrev pub WaitersHaveLines : Type 0
WaitersHaveLines =
    (setting : Setting) (turn : Turn) → IsStanding setting turn → turn.waits ≡ true
    → IsAtLock turn.lines × (2 ≤ length turn.lines) × ((wish : Wish) × (next_wish turn.txn turn.lines ≡ Some wish))

-- each pair of the transaction in the tree overlaps a range that it is to give back
abbrev pub OwnsDue : Setting → List Event → Turn → ℕ → Type 0
OwnsDue setting history turn tree =
    AllByRecursion (λ p. p.owner ≡ turn.txn → OverlapsOne p.range (due_in tree turn)) (tree_at (after setting history) tree).pairs

abbrev pub SeatsOwnDue : Type 0
SeatsOwnDue =
    (setting : Setting) (searches : List Search) (lines : List Line) (history : List Event) (seat : Seat)
    → AreFitDeeds setting lines → IsLegal setting history → Stands true setting searches lines history seat
    → (tree : ℕ) → OwnsDue setting history seat.turn tree

-- each waits, or has ended and given back all
abbrev pub AllWaitOrAreOver : List Seat → Type 0
AllWaitOrAreOver seats = AllByRecursion (λ seat. (seat.turn.waits ≡ true) ⊎ IsOver seat) seats

-- Where it is so, every pair is owned by one that waits, as a pass of retries needs it.
abbrev pub WaitingOwnAll : Type 0
WaitingOwnAll =
    (setting : Setting) (searches : List Search) (lines : List Line) (history : List Event) (seats : List Seat)
    → AreFitDeeds setting lines → IsStrictlySortedBy nat_cmp (txns_of lines) → AllStand true setting searches lines history seats
    → AllWaitOrAreOver seats
    → (let turns = turns_of seats in
    IsInOrder setting (map (λ t. t.txn) turns) (game_at history turns false) × OwnersWait setting (game_at history turns false))
