-- Moves that are played one after another.
use Rattle.std.proofs.Common.{◌≡◌, ℕ, suc, ◌+◌, ◌<◌, List, [], ◌∷◌, ◌++◌, length, take, drop, get_or}
use Rattle.std.proofs.Common.{refl, sym, ap, subst, ◌∙◌, append_assoc, add-one, drop-cons}
use Rattle.std.proofs.Math.Seq.{take-suc}
use Rattle.std.proofs.lemmas.List.{append-nil}
use Rattle.lt_store.specs.declared.op.Move.{Move}
use Rattle.lt_store.specs.declared.answer.Answer.{Answer}
use Rattle.lt_store.specs.View.{StoreView}
use Rattle.lt_store.specs.Steps.{Steps, IsSerial}
use Rattle.lt_script.specs.Grammar.{IsFaultless, AreFaultless}
use Rattle.lt_script.specs.Text.{answer_line, answer_lines}
use Rattle.lt_script.specs.Play.{Plays}
use Rattle.lt_script.specs.Playing.{WerePlayed}

plays_on : (first : StoreView) (moves : List Move) (answers : List Answer) (old new : StoreView) (m : Move) (answer : Answer) →
    Plays first moves answers old → Steps old new m.txn m.op answer → IsSerial new →
    Plays first (moves ++ m ∷ []) (answers ++ answer ∷ []) new
plays_on first [] [] old new m answer same step serial = (new, subst (λ s. Steps s new m.txn m.op answer) (sym same) step, serial, refl)
plays_on first [] (b ∷ bs) old new m answer same step serial = absurd same
plays_on first (n ∷ ns) [] old new m answer same step serial = absurd same
plays_on first (n ∷ ns) (b ∷ bs) old new m answer h step serial = (h.0, h.1, h.2, plays_on h.0 ns bs old new m answer h.3 step serial)

lines_on : (first : StoreView) (moves : List Move) (answers : List Answer) (old : StoreView) (m : Move) (answer : Answer) →
    Plays first moves answers old →
    answer_lines (moves ++ m ∷ []) (answers ++ answer ∷ []) ≡ answer_lines moves answers ++ answer_line m answer
lines_on first [] [] old m answer h = append-nil (answer_line m answer)
lines_on first [] (b ∷ bs) old m answer h = absurd h
lines_on first (n ∷ ns) [] old m answer h = absurd h
lines_on first (n ∷ ns) (b ∷ bs) old m answer h =
    ap (λ l. answer_line n b ++ l) (lines_on h.0 ns bs old m answer h.3)
    ∙ sym (append_assoc (answer_line n b) (answer_lines ns bs) (answer_line m answer))

-- what is left of the moves, once one more is played
first_left : (before moves rest : List Move) (m : Move) → moves ≡ m ∷ rest → AreFaultless before moves →
    IsFaultless before m × AreFaultless (before ++ m ∷ []) rest
first_left before moves rest m is all = subst (AreFaultless before) is all

pub next_left : (moves : List Move) (i : ℕ) (m : Move) → i < length moves → m ≡ get_or moves i m →
    AreFaultless (take i moves) (drop i moves) → IsFaultless (take i moves) m × AreFaultless (take i moves ++ m ∷ []) (drop (i + 1) moves)
next_left moves i m lt is all =
    first_left (take i moves) (drop i moves) (drop (i + 1) moves) m
    (drop-cons moves i m lt ∙ ap (λ n. n ∷ drop (suc i) moves) (sym is) ∙ ap (λ j. m ∷ drop j moves) (sym (add-one i))) all

pub one_taken : (moves : List Move) (i : ℕ) (m : Move) → i < length moves → m ≡ get_or moves i m →
    take (i + 1) moves ≡ take i moves ++ m ∷ []
one_taken moves i m lt is = ap (λ j. take j moves) (add-one i) ∙ take-suc moves i m lt ∙ ap (λ n. take i moves ++ n ∷ []) (sym is)

-- one more move is played, and the line of its answer is written
pub one_played : (first : StoreView) (moves : List Move) (text written more : List ℕ) (old new : StoreView) (m : Move) (answer : Answer) →
    WerePlayed first moves text old written → Steps old new m.txn m.op answer → IsSerial new → more ≡ written ++ answer_line m answer →
    WerePlayed first (moves ++ m ∷ []) text new more
one_played first moves text written more old new m answer were step serial is = record {
  answers = were.answers ++ answer ∷ [];
  plays = plays_on first moves were.answers old new m answer were.plays step serial;
  text_is = is ∙ ap (λ l. l ++ answer_line m answer) were.text_is
      ∙ append_assoc text (answer_lines moves were.answers) (answer_line m answer)
      ∙ ap (λ l. text ++ l) (sym (lines_on first moves were.answers old m answer were.plays));
}
