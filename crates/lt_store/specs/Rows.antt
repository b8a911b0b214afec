-- The map as a plain list of rows, ascending by key.
use Rattle.std.specs.Prelude.{◌≡◌, ℕ, List, [], ◌∷◌, filter, Option, Some, None, if◌then◌else◌, false}
use Rattle.lt_ranges.specs.declared.key.Key.{Key}
use Rattle.lt_ranges.specs.Key.{key_le}
use Rattle.lt_ranges.specs.Interval.{Interval, has}
use Rattle.lt_store.specs.declared.row.StoreRow.{StoreRow}

abbrev pub row_of : Key → ℕ → StoreRow
row_of key value = record { key = key; value = value }

-- the value of a key
abbrev pub find : List StoreRow → Key → Option ℕ
find [] key = None
find (r ∷ rs) key =
    if key_le key r.key then (if key_le r.key key then Some r.value else None) else find rs key

-- the rows once a key has this value
abbrev pub put : List StoreRow → Key → ℕ → List StoreRow
put [] key value = row_of key value ∷ []
put (r ∷ rs) key value =
    if key_le key r.key
    then (if key_le r.key key then row_of key value ∷ rs else row_of key value ∷ r ∷ rs)
    else r ∷ put rs key value

-- the rows without a key
abbrev pub removed : List StoreRow → Key → List StoreRow
removed [] key = []
removed (r ∷ rs) key =
    if key_le key r.key then (if key_le r.key key then rs else r ∷ rs) else r ∷ removed rs key

-- the rows once a key has again what was found of it
abbrev pub restored : List StoreRow → Key → Option ℕ → List StoreRow
restored rows key None = removed rows key
restored rows key (Some value) = put rows key value

-- the rows of a range
abbrev pub inside : Interval → List StoreRow → List StoreRow
inside range rows = filter (λ r. has range r.key) rows

-- the rows behind this key
abbrev pub AreBehind : Key → List StoreRow → Type 0
AreBehind key [] = Unit {0}
AreBehind key (r ∷ rs) = (key_le r.key key ≡ false) × AreBehind key rs

-- the keys ascend, and none comes twice
abbrev pub AreAscending : List StoreRow → Type 0
AreAscending [] = Unit {0}
AreAscending (r ∷ rs) = AreBehind r.key rs × AreAscending rs
