-- Workers before they begin and behind their end, and what a run leaves.
use Rattle.std.specs.Prelude.{◌≡◌, ℕ, ◌+◌, List, [], ◌∷◌, ◌++◌, map, false}
use Rattle.std.specs.List.{AllByRecursion, flat_map}
use Rattle.std.specs.List.Sorted.{IsNonDecreasingBy, IsPermutation}
use Rattle.crossbeam_queue.specs.Passes.{Pass, view}
use Rattle.lt_seq.specs.Table.{Setting}
use Rattle.lt_seq.specs.Passes.{AreAll}
use Rattle.lt_seq.specs.Yard.{PassView, Origin, IsSound}
use Rattle.lt_trace.specs.declared.line.Line.{Line}
use Rattle.lt_runner.specs.Notes.{notes_of}
use Rattle.lt_runner.specs.TurnView.{Seat}
use Rattle.lt_live.specs.declared.hire.Parted.{Parted}
use Rattle.lt_live.specs.declared.hire.Played.{Played}
use Rattle.lt_live.specs.declared.queue.Hand.{Hand}
use Rattle.lt_live.specs.declared.worker.Worker.{Worker}
use Rattle.lt_live.specs.Deals.{hand, times}
use Rattle.lt_live.specs.House.{IsPassFit}
use Rattle.lt_live.specs.Live.{Served}
use Rattle.lt_live.specs.Workers.{EachPair}

abbrev pub numbers_of : List Seat → List ℕ
numbers_of seats = map (λ t. t.turn.txn) seats

-- what two passes of the queue have put and taken together
abbrev pub both : Hand → Hand → Hand
both v w = hand (v.parts + w.parts) (v.put ++ w.put) (v.taken ++ w.taken)

-- the same of one and all these
abbrev pub all_told : Hand → List Hand → Hand
all_told v [] = v
all_told v (w ∷ ws) = all_told (both v w) ws

-- one that was hired a moment ago
pub record IsFresh {P : Type 0} (IsTicket : Pass ℕ Hand → Type 0) (worker : Worker P) : Type 0 where
  pub queue : IsTicket worker.ticket
  pub ticket : view worker.ticket ≡ hand 1 [] []
  pub none : worker.turns.items ≡ []
  pub memory : worker.stopped ≡ false

-- what was taken from the workers, where the first was given all that was put and taken
pub record IsParted {P : Type 0} (IsTicket : Pass ℕ Hand → Type 0) (ticket : Hand) (workers : List (Worker P)) (parted : Parted P) : Type 0 where
  pub queue : IsTicket parted.first.ticket
  pub none : parted.first.turns.items ≡ []
  pub memory : parted.first.stopped ≡ false
  pub knows : view parted.first.ticket ≡ all_told ticket (map (λ w. view w.ticket) workers)
  pub passes : parted.first.pass ∷ parted.others.items ≡ map (λ w. w.pass) workers
  pub turns : parted.turns.items ≡ flat_map (λ w. w.turns.items) workers

-- each pass has played these turns, as far as it has seen
abbrev pub EachServed : Setting → List Line → List PassView → List (List Seat) → Type 0
EachServed setting lines [] [] = Unit {0}
EachServed setting lines [] (ts ∷ tss) = ⊥
EachServed setting lines (v ∷ vs) [] = ⊥
EachServed setting lines (v ∷ vs) (ts ∷ tss) = Served setting lines v.front v ts × EachServed setting lines vs tss

module _ {P : Type 0} (origin : P → Origin) (seen : P → PassView) (place : Origin) where
  -- a pass that has played these turns
  pub record IsDone (lines : List Line) (at : ℕ) (pass : P) (turns : List Seat) : Type 0 where
    pub of : origin pass ≡ place
    pub fit : IsPassFit place.setting (seen pass)
    pub number : (seen pass).number ≡ at
    pub served : Served place.setting lines (seen pass).front (seen pass) turns

  -- so are these workers, in the order of their passes' numbers, and each has put nothing in the queue and taken those that it has played
  abbrev pub AreDone : (Pass ℕ Hand → Type 0) → List Line → ℕ → List (Worker P) → Type 0
  AreDone IsTicket lines number [] = Unit {0}
  AreDone IsTicket lines number (w ∷ ws) =
      IsDone lines number w.pass w.turns.items
      × IsTicket w.ticket
      × (view w.ticket ≡ hand 1 [] (numbers_of w.turns.items))
      × AreDone IsTicket lines (number + 1) ws

  -- a pass whose notes were taken
  pub record IsEmptied (old new : P) : Type 0 where
    pub of : origin new ≡ place
    pub pass : seen new ≡ record (seen old) { notes = [] }

  -- These passes and turns put together: the notes were taken, by place, and the turns are ascending.
  pub record IsTogether (passes : List P) (turns : List Seat) (played : Played P) : Type 0 where
    pub passes_are : EachPair IsEmptied passes played.passes.items
    pub put : IsPermutation turns played.turns.items
    pub order : IsNonDecreasingBy (λ seat. seat.turn.txn) played.turns.items
    pub notes : IsPermutation (flat_map (λ p. (seen p).notes) passes) played.notes.items
    pub notes_order : IsNonDecreasingBy (λ note. note.place) played.notes.items

  -- What is left where these transactions were played, before the table is closed: all passes, whose notes were taken, and the
  -- turns, ascending. The first pass has seen the history.
  pub record IsPlayedLive (lines : List Line) (numbers : List ℕ) (played : Played P) : Type 0 where
    pub of : AllByRecursion (λ p. origin p ≡ place) played.passes.items
    pub all : AreAll place.setting (map seen played.passes.items)
    pub sound : AllByRecursion (IsSound place.setting) (map seen played.passes.items)
    pub turns : List (List Seat)
    pub served : EachServed place.setting lines (map seen played.passes.items) turns
    pub put : IsPermutation (flat_map (λ ts. ts) turns) played.turns.items
    pub order : IsNonDecreasingBy (λ seat. seat.turn.txn) played.turns.items
    pub taken : (txn : ℕ) → times txn (flat_map numbers_of turns) ≡ times txn numbers
    pub notes : IsPermutation (flat_map (λ p. notes_of place.setting p.number p.front) (map seen played.passes.items)) played.notes.items
    pub notes_order : IsNonDecreasingBy (λ note. note.place) played.notes.items
