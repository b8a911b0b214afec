-- What the calls of a pass that has all the rights come to: no other pass acts, so that all happens at once.
use Rattle.std.specs.Prelude.{◌≡◌, ℕ, ◌+◌, ◌<◌, ◌≤◌, List, [], ◌∷◌, length, Result, Ok, Err}
use Rattle.lt_seq.specs.declared.event.Deed.{Deed}
use Rattle.lt_seq.specs.declared.event.Deed.TheVariants.{Join}
use Rattle.lt_seq.specs.declared.event.Event.{Event}
use Rattle.lt_seq.specs.declared.event.Receipt.{Receipt}
use Rattle.lt_seq.specs.declared.fault.Fault.{Fault}
use Rattle.lt_seq.specs.declared.fault.Fault.TheVariants.{OutOfMemory, Busy, HistoryFull, OutOfLocks}
use Rattle.lt_seq.specs.Table.{Setting, used}
use Rattle.lt_seq.specs.History.{after}
use Rattle.lt_seq.specs.Yard.{PassView, OneMore, IsSound, IsFull, IsOutOfLocks, AreNoneOrAll, place_after, places_end}

-- a pass after a call that made no event: it has neither done nor seen anything more
pub record Stays (setting : Setting) (old new : PassView) : Type 0 where
  pub number : new.number ≡ old.number
  pub rights : new.rights ≡ old.rights
  pub met : old.met ≤ new.met
  pub front : new.front ≡ old.front
  pub mine : new.mine ≡ old.mine
  pub notes : new.notes ≡ old.notes
  pub sound : IsSound setting new

-- one event more, for which there was a place
pub record IsMade (setting : Setting) (old new : PassView) (txn : ℕ) (deed : Deed) (receipt : Receipt) : Type 0 where
  pub more : OneMore setting old new txn deed receipt
  pub sound : IsSound setting new
  pub room : place_after setting old.front < places_end

-- no event, for this cause
pub record IsRefused (setting : Setting) (old new : PassView) (Cause : Type 0) : Type 0 where
  pub stays : Stays setting old new
  pub cause : Cause

-- why a call other than an ask made no event behind these: it is never busy and never out of locks
abbrev pub AloneCaused : Setting → List Event → Fault → Type 0
AloneCaused setting events OutOfMemory = Unit {0}
AloneCaused setting events (Busy row holder) = ⊥
AloneCaused setting events (HistoryFull place) = IsFull setting events place
AloneCaused setting events (OutOfLocks place used_rows) = ⊥

abbrev pub AloneAnswered : Setting → PassView → PassView → ℕ → Deed → Result Receipt Fault → Type 0
AloneAnswered setting old new txn deed (Ok receipt) = IsMade setting old new txn deed receipt
AloneAnswered setting old new txn deed (Err fault) = IsRefused setting old new (AloneCaused setting old.front fault)

-- the answer of a call other than an ask: one event more, where there is a place for it
pub record AloneAnswers (setting : Setting) (old new : PassView) (txn : ℕ) (deed : Deed) (result : Result Receipt Fault) : Type 0 where
  pub answer : AloneAnswered setting old new txn deed result

-- a join of this tree at once, and then others
pub record JoinsOneAtOnce (setting : Setting) (old : PassView) (txn tree : ℕ) (receipt : Receipt) (Others : PassView → Type 0) : Type 0 where
  pub next : PassView
  pub more : OneMore setting old next txn (Join tree 0 0) receipt
  pub room : place_after setting old.front < places_end
  pub others : Others next

-- joins of the trees from this one on, ascending, each at once
abbrev pub AreJoinedAtOnce : Setting → PassView → PassView → ℕ → ℕ → List Receipt → Type 0
AreJoinedAtOnce setting old new txn tree [] = new ≡ old
AreJoinedAtOnce setting old new txn tree (r ∷ rs) =
    JoinsOneAtOnce setting old txn tree r (λ next. AreJoinedAtOnce setting next new txn (tree + 1) rs)

-- an ask makes joins only where the rows have reached the bar
abbrev pub HasReached : Setting → ℕ → List Event → List Receipt → Type 0
HasReached setting bar events [] = Unit {0}
HasReached setting bar events (r ∷ rs) = bar ≤ used (after setting events)

-- why an ask made no event behind its joins: it is never busy
abbrev pub AloneAskCaused : Setting → ℕ → List Receipt → List Event → Fault → Type 0
AloneAskCaused setting bar joins events OutOfMemory = Unit {0}
AloneAskCaused setting bar joins events (Busy row holder) = ⊥
AloneAskCaused setting bar joins events (HistoryFull place) = IsFull setting events place
AloneAskCaused setting bar joins events (OutOfLocks place used_rows) = IsOutOfLocks setting bar joins events place used_rows

-- the event of an ask behind its joins, for which there was a row below the bar
pub record IsAskedAtOnce (setting : Setting) (bar : ℕ) (joins : List Receipt) (old new : PassView) (txn : ℕ)
    (deed : Deed) (receipt : Receipt) : Type 0 where
  pub whole : AreNoneOrAll setting joins
  pub made : IsMade setting old new txn deed receipt
  pub below : used (after setting old.front) < bar

abbrev pub AloneAskAnswered : Setting → ℕ → List Receipt → PassView → PassView → ℕ → Deed → Result Receipt Fault → Type 0
AloneAskAnswered setting bar joins old new txn deed (Ok receipt) = IsAskedAtOnce setting bar joins old new txn deed receipt
AloneAskAnswered setting bar joins old new txn deed (Err fault) = IsRefused setting old new (AloneAskCaused setting bar joins old.front fault)

-- The answer of an ask: its joins, where the rows have reached the bar, and one event more behind them.
pub record AloneAskAnswers (setting : Setting) (bar : ℕ) (old new : PassView) (txn : ℕ) (deed : Deed) (result : Result Receipt Fault) : Type 0 where
  pub joins : List Receipt
  -- the pass behind them
  pub joined : PassView
  pub most : length joins ≤ setting.plan.trees
  pub reached : HasReached setting bar old.front joins
  pub chain : AreJoinedAtOnce setting old joined txn 0 joins
  pub answer : AloneAskAnswered setting bar joins joined new txn deed result

-- the call made its event, or memory was short
abbrev pub IsDone : Result Receipt Fault → Type 0
IsDone (Ok receipt) = Unit {0}
IsDone (Err OutOfMemory) = Unit {0}
IsDone (Err (Busy row holder)) = ⊥
IsDone (Err (HistoryFull place)) = ⊥
IsDone (Err (OutOfLocks place used_rows)) = ⊥

-- or an ask was out of locks
abbrev pub IsDoneOrOutOfLocks : Result Receipt Fault → Type 0
IsDoneOrOutOfLocks (Ok receipt) = Unit {0}
IsDoneOrOutOfLocks (Err OutOfMemory) = Unit {0}
IsDoneOrOutOfLocks (Err (Busy row holder)) = ⊥
IsDoneOrOutOfLocks (Err (HistoryFull place)) = ⊥
IsDoneOrOutOfLocks (Err (OutOfLocks place used_rows)) = Unit {0}
