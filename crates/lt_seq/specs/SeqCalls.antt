-- What the joins leave with which an ask of the plain table begins.
use Rattle.std.specs.Prelude.{◌≡◌, ℕ, ◌<◌, List, length}
use Rattle.lt_seq.specs.declared.event.Receipt.{Receipt}
use Rattle.lt_seq.specs.declared.fault.Fault.{Fault}
use Rattle.lt_seq.specs.Table.{Setting}
use Rattle.lt_seq.specs.Yard.{PassView, FaultAt, Caused, AreJoined}

-- so many trees were joined
pub record HasJoined (setting : Setting) (bar : ℕ) (old new : PassView) (txn trees : ℕ) : Type 0 where
  pub joins : List Receipt
  pub count : length joins ≡ trees
  pub chain : AreJoined setting bar old new txn 0 joins

-- or fewer, and then there was a fault
pub record JoinsStop (setting : Setting) (bar : ℕ) (old new : PassView) (txn trees : ℕ) (fault : Fault) : Type 0 where
  pub joins : List Receipt
  pub joined : PassView
  pub count : length joins < trees
  pub chain : AreJoined setting bar old joined txn 0 joins
  pub at : FaultAt setting joined new (Caused setting joined new fault)
