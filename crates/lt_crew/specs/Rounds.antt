-- Runs of a crew: rounds of its workers, and turns of its caller, from the opening to the end.
use Rattle.std.specs.Prelude.{◌≡◌, ◌≢◌, ℕ, ◌<◌, ◌≤◌, List, [], ◌∷◌}
use Rattle.std.specs.Prelude.{◌++◌, map, length, slice_index_or, slice_set, true, IsTrue}
use Rattle.std.specs.List.{AllByRecursion, filter_map}
use Rattle.lt_ranges.specs.Numbers.{is_in}
use Rattle.lt_seq.specs.declared.event.Event.{Event}
use Rattle.lt_seq.specs.Table.{Setting}
use Rattle.lt_seq.specs.Yard.{PassView, HasAll, IsSound, place_after}
use Rattle.lt_trace.specs.declared.line.Line.{Line}
use Rattle.lt_trace.specs.Grammar.{txns_of}
use Rattle.lt_runner.specs.TurnView.{Seat}
use Rattle.lt_runner.specs.Seats.{opening_seat}
use Rattle.lt_runner.specs.Plays.{lines_for}
use Rattle.lt_runner.specs.Played.{Search, AllStand, IsOver}
use Rattle.lt_runner.specs.PlaysOn.{PlaysOn}
use Rattle.lt_runner.specs.Run.{Play, IsRun, ended_as}
use Rattle.lt_runner.specs.Listed.{IsListedNow}
use Rattle.lt_runner.specs.Serial.{ended_in}
use Rattle.lt_crew.specs.Crew.{numbers_in, AreDistinct, IsRound, only}

-- what a round made of a transaction: a pass played it, or it stayed
pub data IsMoved : Setting → (ℕ → List Seat) → (ℕ → List Seat) → Seat → Seat → Type 0 where
  -- it was dealt to this pass, at this place
  played : {setting : Setting} {were are : ℕ → List Seat} {was is : Seat} (pass i : ℕ) → pass < setting.plan.passes
      → i < length (were pass) → was ≡ slice_index_or (were pass) i was → is ≡ slice_index_or (are pass) i was
      → IsMoved setting were are was is
  -- it was dealt to none
  stayed : {setting : Setting} {were are : ℕ → List Seat} {was is : Seat} → is ≡ was
      → ((pass : ℕ) → IsTrue (is_in was.turn.txn (numbers_in (were pass))) → ⊥) → IsMoved setting were are was is

-- all of them
abbrev pub AreMoved : Setting → (ℕ → List Seat) → (ℕ → List Seat) → List Seat → List Seat → Type 0
AreMoved setting were are [] [] = Unit {0}
AreMoved setting were are [] (is ∷ later) = ⊥
AreMoved setting were are (was ∷ before) [] = ⊥
AreMoved setting were are (was ∷ before) (is ∷ later) = IsMoved setting were are was is × AreMoved setting were are before later

-- where a transaction was dealt: to this pass, at this place among the pass's
pub record Dealt : Type 0 where
  pub pass : ℕ
  pub index : ℕ

abbrev pub seat_at : (ℕ → List Seat) → Dealt → Seat
seat_at seats at = slice_index_or (seats at.pass) at.index (opening_seat 0 0 [])

-- it was dealt so
pub record IsDealt (setting : Setting) (seats : ℕ → List Seat) (at : Dealt) : Type 0 where
  pub pass : at.pass < setting.plan.passes
  pub index : at.index < length (seats at.pass)

-- what was dealt is of the trace
abbrev pub AreOfTrace : List Line → (ℕ → List Seat) → Type 0
AreOfTrace lines were = (pass txn : ℕ) → IsTrue (is_in txn (numbers_in (were pass))) → IsTrue (is_in txn (txns_of lines))

-- the transactions of a trace, none of them begun
abbrev pub opening_seats : Setting → List Line → List Seat
opening_seats setting lines = map (λ txn. opening_seat setting.plan.trees txn (lines_for txn lines)) (txns_of lines)

-- A search of the caller's for one transaction: it comes behind these events and is of the history, and each other transaction is listed
-- rightly in it.
pub record IsSearchOf (setting : Setting) (search_made : Search) (before history : List Event) (was : Seat) (seats : List Seat) : Type 0 where
  pub txn : search_made.txn ≡ was.turn.txn
  pub behind : place_after setting before ≤ search_made.place
  pub inside : search_made.place < place_after setting history
  pub others : AllByRecursion (λ seat. seat.turn.txn ≢ was.turn.txn → IsListedNow search_made.wishes seat) seats

-- Where rounds lead from the opening on, and all searches that were made. The caller's turn with one transaction is a round in which it
-- alone plays.
pub data AreRounds : Setting → List Line → List Search → List Event → List Seat → Type 0 where
  -- nothing was played yet
  opened : {setting : Setting} {lines : List Line} {searches : List Search} {history : List Event} {seats : List Seat}
      → searches ≡ [] → history ≡ [] → seats ≡ opening_seats setting lines → AreRounds setting lines searches history seats
  -- a round without a search
  worked : {setting : Setting} {lines : List Line} {searches : List Search} {before history : List Event} {old new : List Seat}
      (were are : ℕ → List Seat) → AreRounds setting lines searches before old → IsRound setting [] before history were are
      → AreMoved setting were are old new → AreOfTrace lines were → AreRounds setting lines searches history new
  -- a turn of the caller with a search
  searched : {setting : Setting} {lines : List Line} {searches : List Search} {before history : List Event} {old new : List Seat}
      (was is : Seat) (made : Search) → AreRounds setting lines searches before old
      → IsRound setting (made ∷ []) before history (only was) (only is) → AreMoved setting (only was) (only is) old new
      → AreOfTrace lines (only was) → IsSearchOf setting made before history was old
      → AreRounds setting lines (searches ++ made ∷ []) history new

-- behind rounds all transactions stand as far as they came
abbrev pub RoundsStand : Type 0
RoundsStand =
    (setting : Setting) (lines : List Line) (searches : List Search) (history : List Event) (seats : List Seat)
    → AreRounds setting lines searches history seats → AllStand true setting searches lines history seats

-- Where all are over behind rounds, what was done is a run of a crew: one legal history, in which each transaction's play stands once and
-- in its order, and no other has an event. Each ended as its turn tells.
abbrev pub RoundsAreARun : Type 0
RoundsAreARun =
    (setting : Setting) (lines : List Line) (searches : List Search) (history : List Event) (seats : List Seat)
    → AreRounds setting lines searches history seats → AllByRecursion IsOver seats
    → (plays : List Play) × IsRun true setting lines history plays
    × (map ended_as plays ≡ filter_map ended_in (map (λ s. s.turn) seats))

-- A turn of the caller, whose pass has all the rights, is a round in which it alone plays one transaction.
abbrev pub CallersTurn : Type 0
CallersTurn =
    (setting : Setting) (found : List Search) (old new : PassView) (was is : Seat)
    → old.number ≡ 0 → IsSound setting old → HasAll setting old → PlaysOn setting found old new was is
    → IsRound setting found old.front new.front (only was) (only is)

-- It leaves the others as they are.
abbrev pub CallerMovesOne : Type 0
CallerMovesOne =
    (setting : Setting) (seats : List Seat) (index : ℕ) (was is : Seat)
    → 0 < setting.plan.passes → AreDistinct seats → index < length seats → was ≡ slice_index_or seats index was
    → AreMoved setting (only was) (only is) seats (slice_set seats index is)

-- Behind a round the transactions are where they were dealt, in whatever order they are told.
abbrev pub DealtAreMoved : Type 0
DealtAreMoved =
    (setting : Setting) (found : List Search) (before history : List Event) (were are : ℕ → List Seat) (places : List Dealt)
    → IsRound setting found before history were are → AllByRecursion (IsDealt setting were) places
    → AreMoved setting were are (map (seat_at were) places) (map (seat_at are) places)
