-- What a sweep of the plain scheduler comes to where all that hold something wait.
use Rattle.std.specs.Prelude.{◌≡◌, ℕ, ◌<◌, List, length, true}
use Rattle.std.specs.List.{AllByRecursion}
use Rattle.lt_ranges.specs.Numbers.{is_in}
use Rattle.lt_seq.specs.Table.{Setting, tree_at}
use Rattle.lt_seq.specs.History.{after, IsLegal}
use Rattle.lt_runner.specs.Serial.{Game, turn_of, is_waiting, swept}
use Rattle.lt_runner.specs.Steps.{IsInOrder}

-- each pair of the table is owned by one that waits
abbrev pub OwnersWait : Setting → Game → Type 0
OwnersWait setting game = (tree : ℕ) → AllByRecursion (λ p. is_waiting (turn_of setting p.owner game.turns) ≡ true) (tree_at (after setting game.events) tree).pairs

-- one that waited at its line is past it: it was granted, or has ended
pub record IsSettled (setting : Setting) (txns : List ℕ) (old new : Game) : Type 0 where
  pub txn : ℕ
  pub there : is_in txn txns ≡ true
  pub waited : is_waiting (turn_of setting txn old.turns) ≡ true
  pub past_it : length (turn_of setting txn new.turns).lines < length (turn_of setting txn old.turns).lines

-- Where a transaction waits and every pair is owned by one that waits, a sweep grants or ends at least one: in it all that wait ask again
-- once, ascending.
abbrev pub SweepsSettleOne : Type 0
SweepsSettleOne =
    (setting : Setting) (txns : List ℕ) (game : Game) (txn : ℕ) → 0 < setting.plan.passes
    → IsInOrder setting txns game → IsLegal setting game.events → OwnersWait setting game
    → is_in txn txns ≡ true → is_waiting (turn_of setting txn game.turns) ≡ true
    → IsSettled setting txns game (swept setting txns game)
