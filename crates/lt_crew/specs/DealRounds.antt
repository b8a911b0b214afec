-- A round whose transactions the workers draw from a deal.
use Rattle.std.specs.Prelude.{◌≡◌, ℕ, ◌+◌, ◌<◌, ◌≤◌, List, [], length, slice_index_or, false, IsTrue, Option, None, Some}
use Rattle.std.specs.List.{All}
use Rattle.lt_ranges.specs.Numbers.{is_in}
use Rattle.lt_seq.specs.declared.event.Event.{Event}
use Rattle.lt_seq.specs.Table.{Setting}
use Rattle.lt_seq.specs.History.{IsFront}
use Rattle.lt_seq.specs.Yard.{PassView, Origin, IsSound}
use Rattle.lt_runner.specs.TurnView.{Seat}
use Rattle.lt_runner.specs.PlaysOn.{IsFit, IsReady}
use Rattle.lt_runner.specs.Work.{work}
use Rattle.lt_runner.specs.CrewCost.{sum_of}
use Rattle.lt_deal.specs.declared.deal.Deal.{Deal}
use Rattle.lt_deal.specs.declared.seat.DealSeat.{DealSeat}
use Rattle.lt_deal.specs.Handles.{knows, IsSeatOf, Rests}
use Rattle.lt_deal.specs.Fresh.{waiting, IsNewSeat}
use Rattle.lt_crew.specs.declared.worker.Worker.{Worker}
use Rattle.lt_crew.specs.Crew.{AreDistinct, IsRound, numbers_in}
use Rattle.lt_crew.specs.Rounds.{AreMoved}
use Rattle.lt_crew.specs.RoundsCrew.{ArePlayedOut, AreAmong}
use Rattle.lt_crew.specs.Caller.{StaysCrew}
use Rattle.lt_crew.specs.Drawing.{IsDrawn, known, HasSeat}

-- a seat of this deal that has drawn nothing
abbrev pub IsNewIn : Deal Seat → List Seat → Option (DealSeat Seat) → Type 0
IsNewIn deal stock None = ⊥
IsNewIn deal stock (Some seat) = IsNewSeat deal.table.shared.table_id stock seat

module _ {P : Type 0} where
  -- a worker that got a new seat
  pub record GetsSeat (deal : Deal Seat) (stock : List Seat) (old new : Worker P) : Type 0 where
    pub pass : new.pass ≡ old.pass
    pub memory : new.short ≡ old.short
    pub seat : IsNewIn deal stock new.seat

  -- a worker whose seat was taken
  pub record KeepsPass (old new : Worker P) : Type 0 where
    pub pass : new.pass ≡ old.pass
    pub memory : new.short ≡ old.short

  -- these are the workers' seats
  pub record AreSeatsOf (workers : List (Worker P)) (seats : List (DealSeat Seat)) : Type 0 where
    pub count : length seats ≡ length workers
    pub each : (k : ℕ) (d : Worker P) (e : DealSeat Seat) → k < length workers → (slice_index_or workers k d).seat ≡ Some (slice_index_or seats k e)

module _ {P : Type 0} (origin : P → Origin) (view : P → PassView) (place : Origin) (deal : Deal Seat) where
  -- a worker that may draw, and has not yet
  pub record IsSeated (worker : Worker P) : Type 0 where
    pub of : origin worker.pass ≡ place
    pub ready : IsReady place.setting (view worker.pass)
    pub memory : worker.short ≡ false
    pub seat : HasSeat deal worker.seat
    pub blank : known worker.seat ≡ waiting 1 (known worker.seat).stock
    pub fit : All (IsFit place.setting) (known worker.seat).stock
    pub distinct : AreDistinct (known worker.seat).stock

  -- what it leaves
  pub record HasWorked (old new : Worker P) : Type 0 where
    pub of : origin new.pass ≡ place
    pub seat : HasSeat deal new.seat
    pub plays : new.short ≡ false → IsDrawn place.setting (known old.seat).stock (view old.pass) (view new.pass) (known new.seat)
    pub ended : new.short ≡ false → (known new.seat).nones ≡ 1

  -- A worker that had a right and a seat and has none now: it played all that it drew, and was told the history.
  pub record HasPlayed (history : List Event) (old new : Worker P) (seat : DealSeat Seat) : Type 0 where
    pub of : origin new.pass ≡ place
    pub between : PassView
    pub plays : IsDrawn place.setting (known old.seat).stock (view old.pass) between (knows seat)
    pub ended : (knows seat).nones ≡ 1
    pub home : IsSeatOf deal seat × Rests seat
    pub seen : IsFront between.front history
    pub pass : view new.pass ≡ record between { rights = 0; front = history }
    pub sound : IsSound place.setting (view new.pass)
    pub memory : new.short ≡ false

  -- all of them, with their seats
  pub record HavePlayed (history : List Event) (old new : List (Worker P)) (seats : List (DealSeat Seat)) : Type 0 where
    pub workers : length new ≡ length old
    pub seated : length seats ≡ length old
    pub each : (k : ℕ) (d : Worker P) (e : DealSeat Seat) → k < length old
        → HasPlayed history (slice_index_or old k d) (slice_index_or new k d) (slice_index_or seats k e)

-- What a round leaves of a crew's transactions. Each was drawn by one pass, which played it as far as it can, and stands at its index
-- again.
pub record IsDealtRound (setting : Setting) (before history : List Event) (old new : List Seat) : Type 0 where
  pub count : length new ≡ length old
  pub crew : StaysCrew setting before history old new
  pub were : ℕ → List Seat
  pub are : ℕ → List Seat
  pub round : IsRound setting [] before history were are
  pub out : ArePlayedOut setting were are
  pub among : AreAmong old were
  pub moved : AreMoved setting were are old new
  pub dealt : (i : ℕ) (d : Seat) → i < length old
      → (pass : ℕ) × IsTrue (is_in (slice_index_or old i d).turn.txn (numbers_in (were pass)))
  pub spent : length history + sum_of (work setting) new ≤ length before + sum_of (work setting) old
