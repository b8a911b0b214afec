-- What holds while moves are played. For proofs.
use Rattle.std.specs.Prelude.{◌≡◌, ℕ, ◌≤◌, List, ◌++◌, length, false}
use Rattle.lt_ranges.specs.Numbers.{is_in}
use Rattle.lt_store.specs.declared.op.Move.{Move}
use Rattle.lt_store.specs.declared.answer.Answer.{Answer}
use Rattle.lt_store.specs.View.{StoreView}
use Rattle.lt_script.specs.Moves.{has_ended}
use Rattle.lt_script.specs.Text.{answer_lines}
use Rattle.lt_script.specs.Play.{Plays}

-- The moves were played on the first store, and the lines of their answers were written behind a text.
pub record WerePlayed (first : StoreView) (moves : List Move) (before : List ℕ) (last : StoreView) (behind : List ℕ) : Type 0 where
  pub answers : List Answer
  pub plays : Plays first moves answers last
  pub text_is : behind ≡ before ++ answer_lines moves answers

-- A store that has made these moves alone: they are few, and a transaction with no last move among them has not ended.
pub record HasMade (moves : List Move) (store : StoreView) : Type 0 where
  pub steps : store.steps ≡ length moves
  pub few : length moves ≤ 65536
  pub ended : (txn : ℕ) → has_ended txn moves ≡ false → is_in txn store.ended ≡ false
