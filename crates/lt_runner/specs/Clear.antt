-- Who waits for whom in a game of the plain scheduler, and when no deadlock is among those that wait. For proofs.
use Rattle.std.specs.Prelude.{◌≡◌, ◌⊎◌, ℕ, List, [], ◌∷◌, Option, Some, None, true, false, if◌then◌else◌}
use Rattle.std.specs.List.{AllByRecursion}
use Rattle.lt_ranges.specs.Numbers.{is_in}
use Rattle.lt_seq.specs.Table.{Setting}
use Rattle.lt_seq.specs.History.{after}
use Rattle.lt_requests.specs.declared.wish.Wish.{Wish}
use Rattle.lt_requests.specs.Circles.{holders}
use Rattle.lt_runner.specs.Plays.{next_wish}
use Rattle.lt_runner.specs.Serial.{Game, turn_of, is_waiting}

-- what a transaction waits for
abbrev pub wish_at : Setting → ℕ → Game → Option Wish
wish_at setting txn game = let turn = turn_of setting txn game.turns in if is_waiting turn then next_wish turn.txn turn.lines else None

-- the one holds something of what the wish is for
abbrev pub IsHeldBy : Setting → Game → Wish → ℕ → Type 0
IsHeldBy setting game w holder = is_in holder (holders (after setting game.events) w) ≡ true

-- the one waits for something that the other holds
abbrev pub WaitsNow : Setting → Game → ℕ → ℕ → Type 0
WaitsNow setting game waiter holder = (w : Wish) × (wish_at setting waiter game ≡ Some w) × IsHeldBy setting game w holder

-- a way goes by such steps from one over these numbers to the other, its last
abbrev pub IsWay : (ℕ → ℕ → Type 0) → ℕ → List ℕ → ℕ → Type 0
IsWay Steps from [] to = from ≡ to
IsWay Steps from (next ∷ more) to = Steps from next × IsWay Steps next more to

-- a way of one step or more
abbrev pub IsLong : (ℕ → ℕ → Type 0) → ℕ → List ℕ → ℕ → Type 0
IsLong Steps from [] to = ⊥
IsLong Steps from (next ∷ more) to = IsWay Steps from (next ∷ more) to

-- Each of these transactions that waits waits for one that holds, and no circle goes through them alone.
pub record AreClear (setting : Setting) (Of : ℕ → Type 0) (game : Game) : Type 0 where
  pub blocked : (txn : ℕ) (w : Wish) → Of txn → wish_at setting txn game ≡ Some w → (holder : ℕ) × IsHeldBy setting game w holder
  pub no_circle : (txn : ℕ) (way : List ℕ) → AllByRecursion Of way → IsLong (WaitsNow setting game) txn way txn → ⊥

-- they are, where none was released since the last sweep began
abbrev pub IsClear : Setting → (ℕ → Type 0) → Game → Type 0
IsClear setting Of game = game.released ≡ false → AreClear setting Of game

-- one more of them
abbrev pub AndOne : ℕ → (ℕ → Type 0) → ℕ → Type 0
AndOne txn Of n = (n ≡ txn) ⊎ Of n
