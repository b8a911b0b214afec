-- A script that is played on a store.
use Rattle.std.specs.Prelude.{◌≡◌, ℕ, List, [], ◌∷◌, length}
use Rattle.lt_store.specs.declared.op.Move.{Move}
use Rattle.lt_store.specs.declared.answer.Answer.{Answer}
use Rattle.lt_store.specs.Rerun.{rerun}
use Rattle.lt_store.specs.View.{StoreView, opening}
use Rattle.lt_store.specs.Steps.{Steps, IsSerial}
use Rattle.lt_script.specs.Script.{ScriptView}
use Rattle.lt_script.specs.Text.{text}

-- The moves are played one after another, and these are the answers. Behind each move the committed transactions, one after another,
-- give all answers that they got.
abbrev pub Plays : StoreView → List Move → List Answer → StoreView → Type 0
Plays store [] [] last = store ≡ last
Plays store [] (answer ∷ answers) last = ⊥
Plays store (m ∷ moves) [] last = ⊥
Plays store (m ∷ moves) (answer ∷ answers) last =
    (next : StoreView) × Steps store next m.txn m.op answer × IsSerial next × Plays next moves answers last

-- It is the text of the script's moves, played on a store with its limit: their answers, the map that the committed transactions make
-- one after another, and their number.
pub record IsRunOfScript (script : ScriptView) (written : List ℕ) : Type 0 where
  pub answers : List Answer
  pub last : StoreView
  pub plays : Plays (opening script.limit) script.moves answers last
  pub text_is : written ≡ text script.moves answers (rerun last.commits) (length last.commits)
