-- A front grows by one move.
use Rattle.std.proofs.Common.{◌≡◌, ℕ, List, [], ◌∷◌, ◌++◌, length, sym, subst, append_assoc}
use Rattle.std.proofs.lemmas.List.{append-nil}
use Rattle.lt_store.specs.declared.op.Move.{Move}
use Rattle.lt_script.specs.Grammar.{IsFaultless, AreFaultless, IsBody, Front, IsFront, header_forms}

faultless_more : (before moves : List Move) (m : Move) → AreFaultless before moves → IsFaultless (before ++ moves) m
    → AreFaultless before (moves ++ m ∷ [])
faultless_more before [] m all one = (subst (λ (ms : List Move). IsFaultless ms m) (append-nil before) one, tt)
faultless_more before (l ∷ ls) m all one = (
  all.0,
  faultless_more (before ++ l ∷ []) ls m all.1
      (subst (λ (ms : List Move). IsFaultless ms m) (sym (append_assoc before (l ∷ []) ls)) one),
)

body_more : (header : List ℕ) (moves : List Move) (m : Move) → length header ≡ length header_forms → IsBody header moves
    → IsFaultless moves m → IsBody header (moves ++ m ∷ [])
body_more header [] m whole body one = (whole, faultless_more [] [] m tt one)
body_more header (l ∷ ls) m whole body one = (whole, faultless_more [] (l ∷ ls) m body.1 one)

-- a faultless move behind a front with a whole header
pub front_more : (front : Front) (m : Move) → length front.header ≡ length header_forms → IsFront front → IsFaultless front.moves m
    → IsFront (record front { moves = front.moves ++ m ∷ [] })
front_more front m whole is one = record { header = is.header; body = body_more front.header front.moves m whole is.body one }
