-- What holds of a store between two steps. For proofs.
use Rattle.std.specs.Prelude.{◌≡◌, ℕ, ◌+◌, ◌*◌, ◌≤◌, List, length, map}
use Rattle.lt_seq.specs.declared.event.Event.{Event}
use Rattle.lt_seq.specs.History.{IsLegal}
use Rattle.lt_store.specs.Attempts.{setting_of, tree_after_all}
use Rattle.lt_store.specs.Locks.{IsPlain}
use Rattle.lt_store.specs.Book.{BookView, IsBook, AreHeld, count_done}

-- The transactions one after another give the answers, and each live one holds what it has touched. The history has few events.
pub record IsStore (limit : ℕ) (front : List Event) (book : BookView) (steps : ℕ) : Type 0 where
  pub legal : IsLegal (setting_of limit) front
  pub plain : IsPlain (tree_after_all limit front).mode
  pub is_book : IsBook book
  pub held : AreHeld (tree_after_all limit front).pairs book.live
  pub room : length front + count_done book.live ≤ 3 * steps
