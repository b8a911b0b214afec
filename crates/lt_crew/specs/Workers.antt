-- Workers, each with a pass.
use Rattle.std.specs.Prelude.{◌≡◌, ℕ, ◌+◌, ◌<◌, ◌≤◌, List, false, length, slice_index_or}
use Rattle.lt_seq.specs.Table.{Setting}
use Rattle.lt_seq.specs.declared.event.Event.{Event}
use Rattle.lt_seq.specs.Yard.{PassView, Origin, IsSound, IsPlan}
use Rattle.lt_seq.specs.History.{IsFront}
use Rattle.lt_crew.specs.declared.worker.Worker.{Worker}

-- each element stands in a relation to the one that was at its place
abbrev pub EachPair : {X : Type 0} → (X → X → Type 0) → List X → List X → Type 0
EachPair {X} R old new = (length new ≡ length old) × ((i : ℕ) (d : X) → i < length old → R (slice_index_or old i d) (slice_index_or new i d))

-- The same below a place. From there on the elements are as they were.
pub record UpTo {X : Type 0} (R : X → X → Type 0) (at : ℕ) (old new : List X) : Type 0 where
  pub len : length new ≡ length old
  pub below : (k : ℕ) (d : X) → k < at → k < length old → R (slice_index_or old k d) (slice_index_or new k d)
  pub rest : (k : ℕ) (d : X) → at ≤ k → slice_index_or new k d ≡ slice_index_or old k d

-- a fact of each element below a place
abbrev pub AllBelow : {X : Type 0} → (X → Type 0) → ℕ → List X → Type 0
AllBelow {X} P at xs = (k : ℕ) (d : X) → k < at → k < length xs → P (slice_index_or xs k d)

module _ {P : Type 0} (origin : P → Origin) (view : P → PassView) (place : Origin) where
  -- between two rounds: it has no right, and has seen the history
  pub record IsResting (history : List Event) (worker : Worker P) : Type 0 where
    pub of : origin worker.pass ≡ place
    pub none : (view worker.pass).rights ≡ 0
    pub seen : (view worker.pass).front ≡ history
    pub sound : IsSound place.setting (view worker.pass)
    pub memory : worker.short ≡ false

  -- a worker with a right
  pub record IsLent (history : List Event) (old new : Worker P) : Type 0 where
    pub of : origin new.pass ≡ place
    pub pass : view new.pass ≡ record (view old.pass) { rights = 1 }
    pub sound : IsSound place.setting (view new.pass)
    pub memory : new.short ≡ old.short

  -- one that was told what the caller has seen
  pub record IsTold (history : List Event) (old new : Worker P) : Type 0 where
    pub of : origin new.pass ≡ place
    pub pass : view new.pass ≡ record (view old.pass) { front = history }
    pub sound : IsSound place.setting (view new.pass)
    pub memory : new.short ≡ old.short

module _ {P : Type 0} (view : P → PassView) where
  -- one whose right was taken back
  pub record IsTaken (old new : Worker P) : Type 0 where
    pub pass : view new.pass ≡ record (view old.pass) { rights = 0 }
    pub memory : new.short ≡ old.short

  -- all workers, in the order of their passes' numbers
  abbrev pub AreNumbered : List (Worker P) → Type 0
  AreNumbered workers = (k : ℕ) (d : Worker P) → k < length workers → (view (slice_index_or workers k d).pass).number ≡ k + 1

  -- what a worker has seen, the caller has
  abbrev pub IsSeenBy : List Event → Worker P → Type 0
  IsSeenBy history worker = IsFront (view worker.pass).front history

-- a pass that took so many rights back, and learned what was seen
pub record HasTaken (setting : Setting) (old new : PassView) (count : ℕ) : Type 0 where
  pub same : new ≡ record old { rights = old.rights + count; front = new.front }
  pub front : IsFront old.front new.front
  pub sound : IsSound setting new

-- the caller between two rounds: it has all the rights, and a pass more than there are workers
pub record IsCaller (setting : Setting) (workers : ℕ) (pass : PassView) : Type 0 where
  pub number : pass.number ≡ 0
  pub all : pass.rights ≡ setting.plan.passes
  pub plan : IsPlan setting.plan
  pub passes : setting.plan.passes ≡ workers + 1
  pub some : 1 ≤ workers
  pub sound : IsSound setting pass
