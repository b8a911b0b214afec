-- The map with the transactions on it. For proofs.
use Rattle.std.specs.Prelude.{◌≡◌, ◌≢◌, ℕ, ◌+◌, ◌*◌, ◌≤◌, ◌<◌, List, [], ◌∷◌, ◌++◌, map, length, true, ◌⊎◌}
use Rattle.lt_ranges.specs.declared.key.Key.{Key}
use Rattle.lt_ranges.specs.Interval.{has}
use Rattle.lt_seq.specs.declared.event.Pair.{Pair}
use Rattle.lt_seq.specs.Joins.{holds}
use Rattle.lt_store.specs.declared.row.StoreRow.{StoreRow}
use Rattle.lt_store.specs.declared.done.Done.{Done}
use Rattle.lt_store.specs.declared.undo.Undo.{Undo}
use Rattle.lt_store.specs.Rerun.{rerun, after_all, AreAnswers, AllAreAnswers}
use Rattle.lt_store.specs.Ranges.{range_of}
use Rattle.lt_store.specs.Undoing.{undo_of}
use Rattle.lt_store.specs.Clear.{AreClearOf}

-- a transaction with what it has done, and what undoes it
pub record Acts : Type 0 where
  pub txn : ℕ
  pub done : List Done
  pub undo : List Undo

pub record BookView : Type 0 where
  pub rows : List StoreRow
  pub commits : List (List Done)
  pub live : List Acts
  pub ended : List ℕ
  pub gone : List ℕ

abbrev pub In : List Acts → Acts → Type 0
In [] a = ⊥
In (x ∷ xs) a = (x ≡ a) ⊎ In xs a

abbrev pub dones : List Acts → List (List Done)
dones live = map (λ a. a.done) live

abbrev pub AllAbove : ℕ → List Acts → Type 0
AllAbove txn [] = Unit {0}
AllAbove txn (a ∷ as') = (txn < a.txn) × AllAbove txn as'

abbrev pub Ascends : List Acts → Type 0
Ascends [] = Unit {0}
Ascends (a ∷ as') = AllAbove a.txn as' × Ascends as'

-- The answers are those of the transactions one after another. No two live transactions meet, and each can be undone.
pub record IsBook (book : BookView) : Type 0 where
  pub commits : AllAreAnswers [] book.commits
  pub rows : book.rows ≡ after_all (rerun book.commits) (dones book.live)
  pub answers : (a : Acts) → In book.live a → AreAnswers (rerun book.commits) a.done
  pub undos : (a : Acts) → In book.live a → a.undo ≡ undo_of (rerun book.commits) a.done
  pub apart : (a b : Acts) → In book.live a → In book.live b → a.txn ≢ b.txn → AreClearOf a.done b.done
  pub ascends : Ascends book.live

-- the transaction holds each key that it has touched
abbrev pub HoldsAll : ℕ → List Pair → List Done → Type 0
HoldsAll txn pairs [] = Unit {0}
HoldsAll txn pairs (d ∷ ds) = ((key : Key) → has (range_of d.op) key ≡ true → holds txn key pairs ≡ true) × HoldsAll txn pairs ds

abbrev pub AreHeld : List Pair → List Acts → Type 0
AreHeld pairs live = (a : Acts) → In live a → HoldsAll a.txn pairs a.done

-- how many operations the live transactions have done
abbrev pub count_done : List Acts → ℕ
count_done [] = 0
count_done (a ∷ as') = length a.done + count_done as'
