-- Whom a search has listed so far.
use Rattle.std.specs.Prelude.{◌≡◌, ℕ, List, length, true}
use Rattle.lt_requests.specs.declared.wish.Wish.{Wish}
use Rattle.lt_requests.specs.Registered.{Ascend, is_registered}

-- Those listed, in another order too. They are among those that wait, none twice.
pub record AreKept (wishes listed asked : List Wish) : Type 0 where
  pub same : (txn : ℕ) → is_registered txn asked ≡ is_registered txn listed
  pub count : length asked ≡ length listed
  pub among : (txn : ℕ) → is_registered txn asked ≡ true → is_registered txn wishes ≡ true
  pub ascend : Ascend asked
