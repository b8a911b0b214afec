-- Lists of few words.
use Rattle.std.proofs.Common.{◌≡◌, ◌≤◌, ◌<◌, List, [], ◌∷◌, length, map, get_or, sym, arith}

-- a list of four
pub of_four : {X Y : Type 0} (f : X → Y) (xs : List X) (a b c d : X) → 4 ≤ length xs → length xs < 5 →
    a ≡ get_or xs 0 a → b ≡ get_or xs 1 b → c ≡ get_or xs 2 c → d ≡ get_or xs 3 d → map f xs ≡ f a ∷ f b ∷ f c ∷ f d ∷ []
of_four f [] a b c d least most p q r s = absurd (omega (arith, least))
of_four f (x ∷ []) a b c d least most p q r s = absurd (omega (arith, least))
of_four f (x ∷ y ∷ []) a b c d least most p q r s = absurd (omega (arith, least))
of_four f (x ∷ y ∷ z ∷ []) a b c d least most p q r s = absurd (omega (arith, least))
of_four f (x ∷ y ∷ z ∷ w ∷ []) a b c d least most p q r s =
    λ i. f (sym p i) ∷ f (sym q i) ∷ f (sym r i) ∷ f (sym s i) ∷ []
of_four f (x ∷ y ∷ z ∷ w ∷ v ∷ vs) a b c d least most p q r s = absurd (omega (arith, most))
