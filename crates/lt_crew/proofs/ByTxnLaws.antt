-- Turns that are each made of their own lines.
use Rattle.std.proofs.Common.{◌≡◌, ℕ, List, [], ◌∷◌, ◌++◌, map, Bool, true, false, ◌==◌, if◌then◌else◌, refl, sym, ap, ◌∙◌, append_assoc}
use Rattle.lt_trace.specs.declared.line.Line.{Line}
use Rattle.lt_runner.specs.TurnView.{Seat}
use Rattle.lt_runner.specs.Plays.{own_of, with_end, lines_for}
use Rattle.lt_runner.proofs.ChoiceLaws.{on_true}

-- its own of its own lines are these
own_again : (txn : ℕ) (lines : List Line) → own_of txn (own_of txn lines) ≡ own_of txn lines
own_again txn [] = refl
own_again txn (line ∷ lines) = by_test (line.txn == txn) refl (own_again txn lines)
  where
    by_test : (a : Bool) → (line.txn == txn) ≡ a → own_of txn (own_of txn lines) ≡ own_of txn lines →
        own_of txn (if a then line ∷ own_of txn lines else own_of txn lines) ≡ (if a then line ∷ own_of txn lines else own_of txn lines)
    by_test true own rest = on_true (line.txn == txn) (line ∷ own_of txn (own_of txn lines)) (own_of txn (own_of txn lines)) own ∙ ap (λ ls. line ∷ ls) rest
    by_test false own rest = rest

-- its own lines give what all lines give
pub lines_again : (txn : ℕ) (lines own : List Line) → own ≡ own_of txn lines → lines_for txn own ≡ lines_for txn lines
lines_again txn lines own is = ap (λ ls. with_end txn (own_of txn ls)) is ∙ ap (λ ls. with_end txn ls) (own_again txn lines)

-- one turn more, for the first that is left
pub turns_more : (f : ℕ → Seat) (turns more whole : List Seat) (turn : Seat) (left rest : List ℕ) (txn : ℕ) → left ≡ txn ∷ rest → more ≡ turns ++ turn ∷ [] → turn ≡ f txn →
    turns ++ map f left ≡ whole → more ++ map f rest ≡ whole
turns_more f turns more whole turn left rest txn first made is goes =
    ap (λ ts. ts ++ map f rest) (made ∙ ap (λ t. turns ++ t ∷ []) is) ∙ append_assoc turns (f txn ∷ []) (map f rest)
    ∙ ap (λ ns. turns ++ map f ns) (sym first) ∙ goes
