-- Keys as eight words, whose order is the order of keys.
use Rattle.std.specs.Prelude.{◌≡◌, false, ℕ, ◌+◌, ◌-◌, List, ◌∷◌, [], ◌++◌, length, replicate, take, map, ◌==◌, nat_eq, nat_le, if◌then◌else◌, slice_index, Option, Some, None}
use Rattle.std.specs.Bool.{then_some}
use Rattle.std.specs.List.{flat_map}
use Rattle.std.specs.Int.{w64, from_be_bytes, to_be_bytes}
use Rattle.std.specs.Simd.{first_chunks}
use Rattle.std.specs.Cmp.Lexicographic.{pointwise}
use Rattle.lt_ranges.specs.declared.key.Key.{Key}
use Rattle.lt_ranges.specs.declared.key.Key.TheVariants.{Below, Bytes, After, Above}
use Rattle.lt_ranges.specs.KeyText.{IsOfBytes, is_long}

-- what holds of every key of the program: it is of bytes, and not of too many
abbrev pub IsValid : Key → Type 0
IsValid key = IsOfBytes key × (is_long key ≡ false)

-- the bytes, filled up to 63, and a code
abbrev pub filled : List ℕ → ℕ → ℕ → List ℕ
filled bytes filling code = bytes ++ (replicate (63 - length bytes) filling ++ code ∷ [])

-- the 64 bytes of a packed key
abbrev pub packed_bytes : Key → List ℕ
packed_bytes Below = replicate 64 0
packed_bytes (Bytes bytes) = filled bytes 0 (length bytes + 1)
packed_bytes (After bytes) = filled bytes 255 (254 - length bytes)
packed_bytes Above = replicate 64 255

-- 64 bytes as eight words, the first byte of each the highest
abbrev pub words_of : List ℕ → List ℕ
words_of bytes = map (from_be_bytes w64) (first_chunks 8 8 bytes)

-- the words of a packed key
unfoldable pub packed : Key → List ℕ
packed key = words_of (packed_bytes key)

-- the bytes of words
abbrev pub spread : List ℕ → List ℕ
spread words = flat_map (to_be_bytes w64) words

-- the key that bytes may be, by the code behind them; no key has a code from 65 to 190
abbrev pub coded : List ℕ → ℕ → Option Key
coded bytes code =
    if code == 0 then Some Below
    else (if code == 255 then Some Above
    else (if nat_le code 64 then Some (Bytes (take (code - 1) bytes))
    else (if nat_le 191 code then Some (After (take (254 - code) bytes))
    else None)))

-- the only key that may pack to these words
unfoldable pub only_key : List ℕ → Option Key
only_key words = coded (spread words) (slice_index (spread words) 63)

-- the key, where it packs to these words
abbrev pub checked : List ℕ → Option Key → Option Key
checked words None = None
checked words (Some key) = then_some (pointwise nat_eq (packed key) words) key

-- the key that packs to these words
unfoldable pub unpacked : List ℕ → Option Key
unpacked words = checked words (only_key words)
