-- Where a key is among the rows, or where it goes.
use Rattle.std.specs.Prelude.{◌≡◌, ℕ, ◌<◌, ◌≤◌, List, length, slice_index_or, true, false}
use Rattle.lt_ranges.specs.declared.key.Key.{Key}
use Rattle.lt_ranges.specs.Key.{key_le}
use Rattle.lt_store.specs.declared.row.StoreRow.{StoreRow}

-- the rows in front of the place lie before the key, and the others not
pub record IsPlace (rows : List StoreRow) (key : Key) (place : ℕ) : Type 0 where
  pub within : place ≤ length rows
  pub front : (k : ℕ) (d : StoreRow) → k < place → key_le key (slice_index_or rows k d).key ≡ false
  pub behind : (k : ℕ) (d : StoreRow) → place ≤ k → k < length rows → key_le key (slice_index_or rows k d).key ≡ true

-- the key is there
pub record IsAt (rows : List StoreRow) (key : Key) (place : ℕ) : Type 0 where
  pub at : IsPlace rows key place
  pub within : place < length rows
  pub same : (d : StoreRow) → key_le (slice_index_or rows place d).key key ≡ true

-- or it is not, and goes there
pub record IsGap (rows : List StoreRow) (key : Key) (place : ℕ) : Type 0 where
  pub at : IsPlace rows key place
  pub greater : (d : StoreRow) → place < length rows → key_le (slice_index_or rows place d).key key ≡ false
