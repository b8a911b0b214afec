-- What a pass shows below a link: the rows that it holds, and the links that hang between them.
use Rattle.std.specs.Prelude.{◌≡◌, ◌⊎◌, ℕ, zero, suc, ◌+◌, ◌<◌, List, [], ◌∷◌, ◌++◌, max, true}
use Rattle.lt_ranges.specs.Key.{key_le}
use Rattle.lt_ranges.specs.Interval.{Interval}
use Rattle.lt_forest.specs.Counts.{times}
use Rattle.lt_forest.specs.Bounds.{Bound, Gap, NoGreater, NoLess, Within}
use Rattle.lt_forest.specs.Trees.{Tree, leaf, node, Nodes, left_end, right_end, in_order}
use Rattle.std.specs.Prelude.{Some, None}

-- a tree that is cut off at links
pub data Cut : Type 0 where
  end : ℕ → Cut
  held : Cut → ℕ → Cut → Cut

-- the link leads along the cut
abbrev pub Shows : Nodes → ℕ → Cut → Type 0
Shows c link (end l) = link ≡ l
Shows c link (held a r b) = (link ≡ r + 1) × Shows c (c r).left a × Shows c (c r).right b

-- the cut with these trees in place of the links that hang
abbrev pub fill : (ℕ → Tree) → Cut → Tree
fill hung (end l) = hung l
fill hung (held a r b) = node (fill hung a) r (fill hung b)

-- the cut's rows alone
abbrev pub bare : Cut → Tree
bare cut = fill (λ _. leaf) cut

-- a row of the cut
abbrev pub IsRow : ℕ → Cut → Type 0
IsRow q cut = 0 < times q (in_order (bare cut))

-- how many rows stand one below the other, at most
abbrev pub depth : Cut → ℕ
depth (end l) = 0
depth (held a r b) = max (depth a) (depth b) + 1

-- g lies within the gap that the row q of a cut has, where the cut's own bounds are x and y
abbrev pub HasCutGap : Nodes → Cut → Bound → Bound → ℕ → Gap → Type 0
HasCutGap c (end l) x y q g = ⊥
HasCutGap c (held a r b) x y q g =
    ((q ≡ r) × Within g x y) ⊎ (HasCutGap c a x (left_end c r) q g ⊎ HasCutGap c b (right_end c r) y q g)

-- the links other than 0 that hang, in key order
abbrev pub links : Cut → List ℕ
links (end zero) = []
links (end (suc l)) = suc l ∷ []
links (held a r b) = links a ++ links b

-- a link that hangs, with the bounds of what hangs there
abbrev pub End : Type 0
End = ℕ × Bound × Bound

abbrev pub end_if : ℕ → Bound → Bound → List End
end_if zero x y = []
end_if (suc l) x y = (suc l, x, y) ∷ []

-- the links other than 0 that hang, each with its bounds
abbrev pub ends : Nodes → Cut → Bound → Bound → List End
ends c (end l) x y = end_if l x y
ends c (held a r b) x y = ends c a x (left_end c r) ++ ends c b (right_end c r) y

abbrev pub AllEnds : (End → Type 0) → List End → Type 0
AllEnds P [] = Unit {0}
AllEnds P (e ∷ es) = P e × AllEnds P es

-- the link with its bounds is one of these
abbrev pub HasEnd : End → List End → Type 0
HasEnd e [] = ⊥
HasEnd e (k ∷ ks) = (e ≡ k) ⊎ HasEnd e ks

-- the same links in the same order, with bounds that are no tighter
abbrev pub Looser : List End → List End → Type 0
Looser [] [] = Unit {0}
Looser [] (k ∷ ks) = ⊥
Looser (h ∷ hs) [] = ⊥
Looser (h ∷ hs) (k ∷ ks) = (k.0 ≡ h.0) × NoGreater k.1 h.1 × NoLess k.2 h.2 × Looser hs ks

-- what lies below the bound ends before the range does: the row behind it begins no later than the range
abbrev pub EndsBefore : Bound → Interval → Type 0
EndsBefore None range = ⊥
EndsBefore (Some k) range = key_le k range.left ≡ true

-- what lies above the bound begins behind the range: the row before it ends no earlier than the range
abbrev pub BeginsBehind : Bound → Interval → Type 0
BeginsBehind None range = ⊥
BeginsBehind (Some k) range = key_le range.right k ≡ true

-- what hangs between these bounds can't overlap the range
abbrev pub IsAside : Interval → End → Type 0
IsAside range e = EndsBefore e.2 range ⊎ BeginsBehind e.1 range

abbrev pub AllAside : Interval → List End → Type 0
AllAside range [] = Unit {0}
AllAside range (e ∷ es) = IsAside range e × AllAside range es
