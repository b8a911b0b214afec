-- What a round of the workers leaves of a crew.
use Rattle.std.specs.Prelude.{[], ℕ, ◌<◌, ◌≤◌, ◌≡◌, List, IsTrue, false, length, slice_index_or}
use Rattle.std.specs.List.{All}
use Rattle.lt_ranges.specs.Numbers.{is_in}
use Rattle.lt_seq.specs.declared.event.Event.{Event}
use Rattle.lt_seq.specs.Table.{Setting}
use Rattle.lt_runner.specs.TurnView.{Seat}
use Rattle.lt_runner.specs.PlaysOn.{IsFit}
use Rattle.lt_runner.specs.Work.{steps}
use Rattle.lt_runner.specs.CrewCost.{sum_of}
use Rattle.lt_runner.specs.Standing.{AreFitDeeds}
use Rattle.lt_requests.specs.declared.wish.Wish.{Wish}
use Rattle.lt_trace.specs.declared.line.Line.{Line}
use Rattle.lt_crew.specs.Crew.{numbers_in, IsPlayedOut, IsRound}
use Rattle.lt_crew.specs.Rounds.{AreMoved}
use Rattle.lt_crew.specs.Workers.{EachPair}
use Rattle.lt_crew.specs.Caller.{IsCrew, StaysCrew}
use Rattle.lt_crew.specs.CallersTurn.{IsTurned}

-- The passes played what they were dealt as far as workers can, and each may be played on.
pub record ArePlayedOut (setting : Setting) (were are : ℕ → List Seat) : Type 0 where
  pub out : (pass : ℕ) → pass < setting.plan.passes → EachPair IsPlayedOut (were pass) (are pass)
  pub fit : (pass : ℕ) → pass < setting.plan.passes → All (IsFit setting) (are pass)

-- what was dealt is among these
abbrev pub AreAmong : List Seat → (ℕ → List Seat) → Type 0
AreAmong seats were = (pass txn : ℕ) → IsTrue (is_in txn (numbers_in (were pass))) → IsTrue (is_in txn (numbers_in seats))

-- It leaves a crew whose transactions were dealt so as it may be between two moves, with the same registry.
abbrev pub RoundStays : Setting → List Event → List Event → (ℕ → List Seat) → (ℕ → List Seat) → Type 0
RoundStays setting before history were are =
    (old new : List Seat) → AreAmong old were → AreMoved setting were are old new → StaysCrew setting before history old new

-- So does each round whose passes played all out.
abbrev pub RoundsStayCrew : Type 0
RoundsStayCrew =
    (setting : Setting) (before history : List Event) (were are : ℕ → List Seat)
    → IsRound setting [] before history were are → ArePlayedOut setting were are → RoundStays setting before history were are

-- It does not wait, was dealt to a pass, and a step is left.
pub record HasStep (were : ℕ → List Seat) (seat : Seat) : Type 0 where
  pub goes : seat.turn.waits ≡ false
  pub some : 0 < steps seat
  pub pass : ℕ
  pub dealt : IsTrue (is_in seat.turn.txn (numbers_in (were pass)))

-- no step was taken back, and one was taken where there was one to take
pub record AreNearer (were : ℕ → List Seat) (old new : List Seat) : Type 0 where
  pub back : sum_of steps new ≤ sum_of steps old
  pub on : (index : ℕ) (d : Seat) → index < length old → HasStep were (slice_index_or old index d) → sum_of steps new < sum_of steps old

-- so it is behind a round and the caller's turn that follows
abbrev pub CrewsComeNearer : Type 0
CrewsComeNearer =
    (setting : Setting) (lines : List Line) (registry : List Wish) (before history : List Event) (were are : ℕ → List Seat)
    (old between new : List Seat)
    → AreFitDeeds setting lines → IsRound setting [] before history were are → ArePlayedOut setting were are → AreAmong old were
    → AreMoved setting were are old between → IsCrew setting lines before registry old → EachPair IsTurned between new
    → AreNearer were old new
