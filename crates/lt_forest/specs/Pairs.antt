-- Pairs in lists.
use Rattle.std.specs.Prelude.{◌≡◌, ◌⊎◌, List, [], ◌∷◌}
use Rattle.lt_seq.specs.declared.event.Pair.{Pair}

-- the pair stands in the list
abbrev pub Has : Pair → List Pair → Type 0
Has p [] = ⊥
Has p (q ∷ qs) = (p ≡ q) ⊎ Has p qs
