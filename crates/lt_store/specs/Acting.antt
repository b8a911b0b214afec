-- A transaction that does an operation, and one that begins. For proofs.
use Rattle.std.specs.Prelude.{◌≡◌, ◌⊎◌, ℕ, List, [], ◌∷◌, ◌++◌, map, length, nat_lt, ◌==◌, if◌then◌else◌}
use Rattle.lt_store.specs.declared.row.StoreRow.{StoreRow}
use Rattle.lt_store.specs.declared.op.Op.{Op}
use Rattle.lt_store.specs.declared.answer.Answer.{Answer}
use Rattle.lt_store.specs.declared.done.Done.{Done}
use Rattle.lt_store.specs.Rerun.{answer_on}
use Rattle.lt_store.specs.Undoing.{undo_op}
use Rattle.lt_store.specs.Book.{Acts, Ascends}
use Rattle.lt_store.specs.View.{Work, begun}

abbrev pub done_as : Op → Answer → Done
done_as op answer = record { op = op; answer = answer }

-- it has done an operation on these rows
abbrev pub did : Acts → List StoreRow → Op → Acts
did a rows op = record { txn = a.txn; done = a.done ++ done_as op (answer_on rows op) ∷ []; undo = a.undo ++ undo_op rows op }

abbrev pub works : List Acts → List Work
works live = map (λ a. record { txn = a.txn; done = a.done }) live

abbrev pub fresh : ℕ → Acts
fresh txn = record { txn = txn; done = []; undo = [] }

-- it stands at the place, where it was, or once it has begun
pub record HasBegun (old new : List Acts) (txn place : ℕ) : Type 0 where
  pub before : List Acts
  pub acts : Acts
  pub behind : List Acts
  pub place_is : length before ≡ place
  pub new_is : new ≡ before ++ acts ∷ behind
  pub own : acts.txn ≡ txn
  pub old_is : (new ≡ old) ⊎ ((old ≡ before ++ behind) × (acts ≡ fresh txn))
  pub ascends : Ascends new
  pub begun_is : works new ≡ begun txn (works old)
