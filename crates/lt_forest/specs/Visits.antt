-- Where a search for a range goes from a row.
use Rattle.std.specs.Prelude.{◌≡◌, ◌⊎◌, zero, suc, Bool, true, not}
use Rattle.lt_ranges.specs.Key.{key_le}
use Rattle.lt_ranges.specs.Interval.{Interval}
use Rattle.lt_forest.specs.Bounds.{Bound}
use Rattle.lt_forest.specs.Trees.{Nodes, left_end, right_end}
use Rattle.lt_forest.specs.Cuts.{Cut, end, held, End}

-- whether the asked range's left end is less than the row's
abbrev pub goes_left : Interval → Interval → Bool
goes_left row asked = not (key_le row.left asked.left)

-- whether the asked range's right end is greater than the row's
abbrev pub goes_right : Interval → Interval → Bool
goes_right row asked = not (key_le asked.right row.right)

-- each link that a search for the range follows from the top of the cut is 0 or leads to a row of the cut
abbrev pub IsVisited : Nodes → Interval → Cut → Type 0
IsVisited c range (end l) = l ≡ 0
IsVisited c range (held a r b) =
    (goes_left (c r).range range ≡ true → IsVisited c range a) × (goes_right (c r).range range ≡ true → IsVisited c range b)

-- A search for the range from the top of the cut reaches this link, that hangs between these bounds; x and y are the cut's own.
abbrev pub Reaches : Nodes → Interval → Cut → Bound → Bound → End → Type 0
Reaches c range (end zero) x y e = ⊥
Reaches c range (end (suc l)) x y e = e ≡ (suc l, x, y)
Reaches c range (held a r b) x y e =
    ((goes_left (c r).range range ≡ true) × Reaches c range a x (left_end c r) e)
    ⊎ ((goes_right (c r).range range ≡ true) × Reaches c range b (right_end c r) y e)
