-- What the joins of an ask come to. For proofs.
use Rattle.std.specs.Prelude.{◌≡◌, ℕ, ◌≤◌, List, ◌++◌}
use Rattle.std.specs.List.{AllByRecursion}
use Rattle.lt_seq.specs.declared.event.Receipt.{Receipt}
use Rattle.lt_seq.specs.Table.{Setting}
use Rattle.lt_seq.specs.Yard.{PassView, HasAll, Goes, place_after}
use Rattle.lt_seq.specs.Questions.{events_of}
use Rattle.lt_runner.specs.Attempt.{behind, AreOfTrees}
use Rattle.lt_runner.specs.Played.{AreInside}

-- joins of the trees from this one on have brought the pass from one view to another
pub record Joining (setting : Setting) (old new : PassView) (txn tree : ℕ) (joins : List Receipt) : Type 0 where
  pub goes : Goes setting old new
  pub rights : new.rights ≡ old.rights
  pub mine : new.mine ≡ old.mine ++ joins
  pub own : AllByRecursion (λ r. r.event.txn ≡ txn) joins
  pub alone : HasAll setting old → new.front ≡ old.front ++ events_of joins
  pub trees : AreOfTrees tree joins
  pub inside : AreInside setting new.front joins
  pub last : (since : ℕ) → since ≤ place_after setting old.front → behind since joins ≤ place_after setting new.front
