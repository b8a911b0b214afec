-- What contracts see of a store.
use Rattle.std.specs.Prelude.{ℕ, List, [], ◌∷◌, nat_lt, ◌==◌, if◌then◌else◌}
use Rattle.lt_seq.specs.declared.event.Event.{Event}
use Rattle.lt_store.specs.declared.row.StoreRow.{StoreRow}
use Rattle.lt_store.specs.declared.done.Done.{Done}
use Rattle.lt_store.specs.declared.undo.Undo.{Undo}

-- a transaction with the operations that it has done, and their answers
pub record Work : Type 0 where
  pub txn : ℕ
  pub done : List Done

pub record StoreView : Type 0 where
  pub limit : ℕ
  -- the history of its table
  pub front : List Event
  pub map : List StoreRow
  -- what each committed transaction has done, in the order of the commits
  pub commits : List (List Done)
  -- the transactions that have made a step and have not ended, ascending
  pub live : List Work
  -- those that have committed or aborted, and those that were out of locks
  pub ended : List ℕ
  pub gone : List ℕ
  pub steps : ℕ

-- the transactions once this one is among them
abbrev pub begun : ℕ → List Work → List Work
begun txn [] = record { txn = txn; done = [] } ∷ []
begun txn (w ∷ ws) =
    if nat_lt w.txn txn then w ∷ begun txn ws
    else if w.txn == txn then w ∷ ws
    else record { txn = txn; done = [] } ∷ w ∷ ws

-- an empty map, with no step yet
abbrev pub opening : ℕ → StoreView
opening limit = record { limit = limit; front = []; map = []; commits = []; live = []; ended = []; gone = []; steps = 0 }
