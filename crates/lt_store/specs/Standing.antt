-- A store by what it is made of. For proofs.
use Rattle.std.specs.Prelude.{◌≡◌, ℕ, ◌≤◌, List, [], ◌∷◌}
use Rattle.lt_seq.specs.Table.{Setting}
use Rattle.lt_seq.specs.Yard.{Origin, PassView}
use Rattle.lt_store.specs.Attempts.{setting_of}
use Rattle.lt_store.specs.Locks.{IsTable}
use Rattle.lt_store.specs.Book.{BookView}
use Rattle.lt_store.specs.Acting.{works}
use Rattle.lt_store.specs.Store.{IsStore}
use Rattle.lt_store.specs.View.{Work}

-- transactions have numbers from 1
abbrev pub AreNumbered : List Work → Type 0
AreNumbered [] = Unit {0}
AreNumbered (w ∷ ws) = (1 ≤ w.txn) × AreNumbered ws

-- A yard of one tree, the pass that was made for it, the transactions on it, and how many steps they have made.
pub record IsStanding (made_for yard : Origin) (setting : Setting) (pass : PassView) (book : BookView) (steps : ℕ) : Type 0 where
  pub of : made_for ≡ yard
  pub setting_is : setting ≡ setting_of setting.plan.limit
  pub table : IsTable setting.plan.limit pass
  pub store : IsStore setting.plan.limit pass.front book steps
  pub numbered : AreNumbered (works book.live)
