-- Recorded ranges as bytes.
use Rattle.std.specs.Prelude.{◌≡◌, ℕ, zero, suc, ◌+◌, ◌-◌, ◌≤◌, List, [], ◌∷◌, ◌++◌, length, take, drop, slice_index, Bool, ◌==◌, nat_le, if◌then◌else◌, All}
use Rattle.std.specs.List.{flat_map}
use Rattle.std.specs.Ordering.{eq_by_cmp}
use Rattle.lt_ranges.specs.Numbers.{AreBytes}
use Rattle.lt_ranges.specs.declared.key.Key.{Key}
use Rattle.lt_ranges.specs.declared.key.Key.TheVariants.{Below, Bytes, After, Above}
use Rattle.lt_ranges.specs.Key.{key_cmp}
use Rattle.lt_ranges.specs.Interval.{Interval, IsInterval}

-- the bytes that a key is of
abbrev pub own_bytes : Key → List ℕ
own_bytes Below = []
own_bytes (Bytes bytes) = bytes
own_bytes (After bytes) = bytes
own_bytes Above = []

-- which kind of key it is, and of how many bytes
abbrev pub code_of : Key → ℕ
code_of Below = 0
code_of (Bytes bytes) = length bytes + 1
code_of (After bytes) = 254 - length bytes
code_of Above = 255

-- a key's code and then its bytes
abbrev pub key_record : Key → List ℕ
key_record key = code_of key ∷ own_bytes key

-- 1 and the key of a point, 2 and both keys of any other range
abbrev pub range_record : Interval → List ℕ
range_record range = if eq_by_cmp key_cmp range.left range.right then 1 ∷ key_record range.left else (2 ∷ key_record range.left) ++ key_record range.right

-- one record after another
abbrev pub bytes_of : List Interval → List ℕ
bytes_of ranges = flat_map range_record ranges

-- the one list begins the other
abbrev pub Begins : List ℕ → List ℕ → Type 0
Begins front all = (behind : List ℕ) × (all ≡ front ++ behind)

-- what holds of the keys and ranges of every program
abbrev pub IsKey : Key → Type 0
IsKey key = (length (own_bytes key) ≤ 63) × AreBytes (own_bytes key)

abbrev pub IsRange : Interval → Type 0
IsRange range = IsInterval range × IsKey range.left × IsKey range.right

-- Back from bytes.

-- of how many bytes the key of this code is
abbrev pub own_len : ℕ → ℕ
own_len code = if code == 0 then 0 else (if code == 255 then 0 else (if nat_le code 64 then code - 1 else 254 - code))

abbrev pub key_of : ℕ → List ℕ → Key
key_of code own = if code == 0 then Below else (if code == 255 then Above else (if nat_le code 64 then Bytes own else After own))

-- the key whose record begins the bytes, and what is behind it
abbrev pub first_key : List ℕ → Key
first_key bytes = key_of (slice_index bytes 0) (take (own_len (slice_index bytes 0)) (drop 1 bytes))

abbrev pub behind_key : List ℕ → List ℕ
behind_key bytes = drop (own_len (slice_index bytes 0)) (drop 1 bytes)

-- the range whose record begins the bytes, and what is behind it
abbrev pub first_range : List ℕ → Interval
first_range bytes = record {
  left = first_key (drop 1 bytes);
  right = (if slice_index bytes 0 == 1 then first_key (drop 1 bytes) else first_key (behind_key (drop 1 bytes)));
}

abbrev pub behind_range : List ℕ → List ℕ
behind_range bytes = if slice_index bytes 0 == 1 then behind_key (drop 1 bytes) else behind_key (behind_key (drop 1 bytes))

-- so many ranges, whose records begin the bytes
abbrev pub ranges_in : ℕ → List ℕ → List Interval
ranges_in zero bytes = []
ranges_in (suc n) bytes = first_range bytes ∷ ranges_in n (behind_range bytes)

-- the bytes are the records of so many ranges
pub record AreRecords (count : ℕ) (bytes : List ℕ) : Type 0 where
  pub are : bytes ≡ bytes_of (ranges_in count bytes)
  pub each : All IsRange (ranges_in count bytes)

-- a key's record begins the bytes
pub record HasKey (bytes : List ℕ) : Type 0 where
  pub some : 1 ≤ length bytes
  pub short : own_len (slice_index bytes 0) ≤ 63
  pub room : own_len (slice_index bytes 0) + 1 ≤ length bytes

-- a range's record begins the bytes
pub record HasRange (bytes : List ℕ) : Type 0 where
  pub some : 1 ≤ length bytes
  pub left : HasKey (drop 1 bytes)
  pub right : (slice_index bytes 0 ≡ 1 → ⊥) → HasKey (behind_key (drop 1 bytes))
  pub ordered : IsInterval (first_range bytes)
