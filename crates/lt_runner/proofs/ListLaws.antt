-- Laws of lists that have a first element.
use Rattle.std.proofs.Common.{◌≡◌, ◌<◌, List, [], ◌∷◌, length, get_or, sym, ap, arith}

-- a list with a first element begins with it
pub first_of : {X : Type 0} (xs : List X) (x : X) → 0 < length xs → x ≡ get_or xs 0 x → (rest : List X) × (xs ≡ x ∷ rest)
first_of [] x some is = absurd (omega arith)
first_of (y ∷ ys) x some is = (ys, ap (λ z. z ∷ ys) (sym is))
