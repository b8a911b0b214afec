-- Lists of held ranges of one tree.
use Rattle.std.specs.Prelude.{◌≡◌, ℕ, List, [], ◌∷◌, map}
use Rattle.std.specs.List.{AllByRecursion}
use Rattle.lt_ranges.specs.Interval.{hull}
use Rattle.lt_seq.specs.declared.event.Held.{Held}
use Rattle.lt_seq.specs.declared.event.Pair.{Pair}

-- the range with its owner
abbrev pub pair_of : Held → Pair
pair_of held = record { owner = held.owner; range = held.range }

abbrev pub pairs_of : List Held → List Pair
pairs_of list = map pair_of list

-- the tree of the first
abbrev pub tree_of : List Held → ℕ
tree_of [] = 0
tree_of (held ∷ behind) = held.tree

-- each is of the first one's tree
abbrev pub AreOfOneTree : List Held → Type 0
AreOfOneTree list = AllByRecursion (λ held. held.tree ≡ tree_of list) list

-- the range and the next one as one of its owner
abbrev pub with_next : Held → Held → Held
with_next last next = record last { range = hull last.range next.range }
