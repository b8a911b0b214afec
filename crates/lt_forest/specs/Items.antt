-- A part in key order as one list, in which the links that are 0 don't stand. Here a row may stand beside a row, and a
-- link beside a link, so that rows are put in and left out as in any list.
use Rattle.std.specs.Prelude.{◌≡◌, ℕ, zero, suc, ◌+◌, List, [], ◌∷◌, map, filter, length, Some, None, Bool, true, if◌then◌else◌}
use Rattle.lt_ranges.specs.declared.key.Key.{Key}
use Rattle.lt_ranges.specs.Key.{key_le}
use Rattle.lt_ranges.specs.Interval.{Interval, IsInterval}
use Rattle.lt_forest.specs.declared.part.PartRow.{PartRow}
use Rattle.lt_forest.specs.Bounds.{Bound, IsAbove, IsBelow}
use Rattle.lt_forest.specs.Cuts.{End}

pub data Item : Type 0 where
  row : PartRow → Item
  hang : ℕ → Item

abbrev pub hang_if : ℕ → List Item → List Item
hang_if zero rest = rest
hang_if (suc l) rest = hang (suc l) ∷ rest

-- the rows and links of a part as one list
abbrev pub items : List PartRow → List ℕ → List Item
items rows [] = []
items [] (l ∷ ls) = hang_if l []
items (r ∷ rows) (l ∷ ls) = hang_if l (row r ∷ items rows ls)

abbrev pub rows_only : List PartRow → List Item
rows_only rows = map row rows

-- the left end of the first row, or the bound
abbrev pub next_row : List Item → Bound → Bound
next_row [] y = y
next_row (row r ∷ rest) y = Some r.range.left
next_row (hang l ∷ rest) y = next_row rest y

-- the right end of the last row, or the bound
abbrev pub last_row : List Item → Bound → Bound
last_row [] x = x
last_row (row r ∷ rest) x = last_row rest (Some r.range.right)
last_row (hang l ∷ rest) x = last_row rest x

-- the same of rows alone
abbrev pub first_end : List PartRow → Bound → Bound
first_end [] y = y
first_end (r ∷ rows) y = Some r.range.left

abbrev pub last_end : List PartRow → Bound → Bound
last_end [] x = x
last_end (r ∷ rows) x = last_end rows (Some r.range.right)

-- each link, between the rows that stand nearest
abbrev pub between : List Item → Bound → Bound → List End
between [] x y = []
between (row r ∷ rest) x y = between rest (Some r.range.right) y
between (hang l ∷ rest) x y = (l, x, next_row rest y) ∷ between rest x y

-- without the rows that fail the test
abbrev pub sift : (PartRow → Bool) → List Item → List Item
sift keep [] = []
sift keep (row r ∷ rest) = if keep r then row r ∷ sift keep rest else sift keep rest
sift keep (hang l ∷ rest) = hang l ∷ sift keep rest

-- In key order the new rows are those that pass the test, and the new hangs those that were, where one of two that come to hang
-- side by side is 0.
pub record LeavesOut (keep : PartRow → Bool) (rows : List PartRow) (hangs : List ℕ) (rows' : List PartRow) (hangs' : List ℕ) : Type 0 where
  pub long : length hangs ≡ length rows + 1
  pub new_long : length hangs' ≡ length rows' + 1
  pub new_rows : rows' ≡ filter keep rows
  pub new_items : items rows' hangs' ≡ sift keep (items rows hangs)

-- the rows' ranges ascend, and the first begins above the bound
abbrev pub Ascends : Bound → List Item → Type 0
Ascends x [] = Unit {0}
Ascends x (row r ∷ rest) = IsAbove x r.range.left × IsInterval r.range × Ascends (Some r.range.right) rest
Ascends x (hang l ∷ rest) = Ascends x rest

-- A run of rows between other items, for which one row may stand after a grant of the range: the rows before end before the
-- range, those behind begin behind it, and where the run sticks out on a side, the one row goes no further there.
pub record MayMerge (range : Interval) (ahead : List Item) (run : List PartRow) (behind : List Item) (one : PartRow) : Type 0 where
  pub range_is : IsInterval range
  pub above : IsAbove (last_row ahead None) range.left
  pub below : IsBelow (next_row behind None) range.right
  pub first : (k : Key) → first_end run None ≡ Some k → key_le k range.left ≡ true → key_le k one.range.left ≡ true
  pub last : (k : Key) → last_end run None ≡ Some k → key_le range.right k ≡ true → key_le one.range.right k ≡ true
