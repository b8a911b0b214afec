-- Workers, each with a pass of the yard and one of the queue.
use Rattle.std.specs.Prelude.{◌≡◌, ℕ, ◌<◌, ◌≤◌, List, [], ◌∷◌, ◌++◌, map, length, slice_index_or, false}
use Rattle.lt_seq.specs.Table.{Setting}
use Rattle.lt_seq.specs.Yard.{PassView, Origin}
use Rattle.lt_trace.specs.declared.line.Line.{Line}
use Rattle.crossbeam_queue.specs.Passes.{Pass, view}
use Rattle.lt_runner.specs.TurnView.{Seat}
use Rattle.lt_live.specs.declared.queue.Hand.{Hand}
use Rattle.lt_live.specs.declared.worker.Worker.{Worker}
use Rattle.lt_live.specs.House.{IsPassFit}
use Rattle.lt_live.specs.Deals.{hand, times}
use Rattle.lt_live.specs.Live.{HasServed}

-- each element stands in a relation to the one that was at its place
abbrev pub EachPair : {X : Type 0} → (X → X → Type 0) → List X → List X → Type 0
EachPair {X} R old new = (length new ≡ length old) × ((i : ℕ) (d : X) → i < length old → R (slice_index_or old i d) (slice_index_or new i d))

-- These were taken from the queue. One with every part knows at the end that they are all that was put.
pub record HasTaken (old new : Hand) (turns : List Seat) : Type 0 where
  pub same : new ≡ hand old.parts old.put (old.taken ++ map (λ t. t.turn.txn) turns)
  pub all : old.parts ≡ 1024 → (x : ℕ) → times x new.put ≡ times x new.taken

module _ {P : Type 0} (origin : P → Origin) (seen : P → PassView) (yard : Origin) (IsTicket : Pass ℕ Hand → Type 0) where
  -- one that may serve, with a pass of the queue
  pub record IsHired (worker : Worker P) : Type 0 where
    pub of : origin worker.pass ≡ yard
    pub fit : IsPassFit yard.setting (seen worker.pass)
    pub queue : IsTicket worker.ticket
    pub parts : 0 < (view worker.ticket).parts
    pub none : worker.turns.items ≡ []
    pub memory : worker.stopped ≡ false

  -- one that was just hired for this pass
  pub record IsNew (pass : P) (worker : Worker P) : Type 0 where
    pub hired : IsHired worker
    pub pass_is : worker.pass ≡ pass
    pub ticket : view worker.ticket ≡ hand 1 [] []

  -- what it leaves
  pub record HasWorked (lines : List Line) (old new : Worker P) : Type 0 where
    pub of : origin new.pass ≡ yard
    pub fit : IsPassFit yard.setting (seen new.pass)
    pub queue : IsTicket new.ticket
    pub none : (seen new.pass).rights ≡ 0
    pub serves : new.stopped ≡ false → HasServed yard.setting lines (seen old.pass) (seen new.pass) new.turns.items
    pub taken : new.stopped ≡ false → HasTaken (view old.ticket) (view new.ticket) new.turns.items

  -- one for each of these passes
  abbrev pub AreNew : List P → List (Worker P) → Type 0
  AreNew [] [] = Unit {0}
  AreNew [] (w ∷ ws) = ⊥
  AreNew (p ∷ ps) [] = ⊥
  AreNew (p ∷ ps) (w ∷ ws) = IsNew p w × AreNew ps ws
