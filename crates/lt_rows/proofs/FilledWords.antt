-- Words with a filling behind the bytes of a key pack that key.
use Rattle.std.proofs.Common.{◌≡◌, ℕ, zero, suc, ◌+◌, ◌-◌, ◌*◌, ◌^◌, ◌%◌, ◌<◌, ◌≤◌, false, List, [], ◌∷◌, ◌++◌, length, take, map, get_or, replicate, refl, sym, ap, ◌∙◌, subst, arith, append_assoc, length-append, length-take-le}
use mathlib.Core.Logic.{dite}
use native.Mathlib.Decide.{ℕ_discrete}
use Rattle.std.specs.Prelude.{nat_lt}
use Rattle.std.proofs.Math.Seq.{take-append-add}
use Rattle.std.proofs.lemmas.Nat.{from_be_bytes-to_be_bytes_8}
use Rattle.std.proofs.lemmas.Bool.Decides.{nat_tests}
use Rattle.std.proofs.lemmas.List.{take-append-le}
use Rattle.std.proofs.lemmas.List.Elements.{All-nil, All-append, All-take}
use Rattle.std.specs.Int.{w64, byte_at, from_be_bytes, to_be_bytes}
use Rattle.std.specs.Simd.{first_chunks}
use Rattle.lt_ranges.specs.declared.key.Key.{Key}
use Rattle.lt_ranges.specs.declared.key.Key.TheVariants.{Below, Bytes, After, Above}
use Rattle.lt_ranges.specs.Numbers.{AreBytes}
use Rattle.lt_ranges.specs.Packing.{packed, packed_bytes, words_of, spread}
use Rattle.lt_ranges.proofs.PackedWords.{IsByte}
use Rattle.lt_rows.specs.Packing.{EndsIn, IsFilled, PacksKey}
use Rattle.lt_rows.proofs.WordEnds.{filled_end}

-- the word of ones
abbrev ones : ℕ
ones = 18446744073709551615

-- each of them is the number of a word
abbrev pub AreWords : List ℕ → Type 0
AreWords words = (k : ℕ) → get_or words k 0 < 2 ^ 64

-- the words of the bytes of words are these words
words_again : (ws : List ℕ) → AreWords ws → map (from_be_bytes w64) (first_chunks 8 (length ws) (spread ws)) ≡ ws
words_again [] small = refl
words_again (w ∷ ws) small = λ i. from_be_bytes-to_be_bytes_8 w (small 0) i ∷ words_again ws (λ k. small (suc k)) i

bytes_small : (w : ℕ) → AreBytes (to_be_bytes w64 w)
bytes_small w i d lt = is_small w i d (omega arith)
  where
    is_small : (w i d : ℕ) → i < 8 → get_or (to_be_bytes w64 w) i d < 256
    is_small w zero d lt = omega arith
    is_small w (suc zero) d lt = omega arith
    is_small w (suc (suc zero)) d lt = omega arith
    is_small w (suc (suc (suc zero))) d lt = omega arith
    is_small w (suc (suc (suc (suc zero)))) d lt = omega arith
    is_small w (suc (suc (suc (suc (suc zero))))) d lt = omega arith
    is_small w (suc (suc (suc (suc (suc (suc zero)))))) d lt = omega arith
    is_small w (suc (suc (suc (suc (suc (suc (suc zero))))))) d lt = omega arith
    is_small w (suc (suc (suc (suc (suc (suc (suc (suc i)))))))) d lt = absurd (omega arith)

-- the bytes of words are bytes
spread_small : (ws : List ℕ) → AreBytes (spread ws)
spread_small [] = All-nil IsByte
spread_small (w ∷ ws) = All-append IsByte (to_be_bytes w64 w) (spread ws) (bytes_small w) (spread_small ws)

spread_length : (ws : List ℕ) → length (spread ws) ≡ 8 * length ws
spread_length [] = refl
spread_length (w ∷ ws) = let e = spread_length ws in let f = length-append (to_be_bytes w64 w) (spread ws) in omega arith

-- a filling and a last byte
abbrev tail : ℕ → ℕ → ℕ → List ℕ
tail f room c = replicate room f ++ c ∷ []

more_room : (f n m room c : ℕ) → n + 1 + m ≡ room → tail f n f ++ tail f m c ≡ tail f room c
more_room f zero m zero c e = absurd (omega arith)
more_room f zero m (suc room) c e = let same : m ≡ room = omega arith in λ i. f ∷ tail f (same i) c
more_room f (suc n) m zero c e = absurd (omega arith)
more_room f (suc n) m (suc room) c e = let rest = more_room f n m room c (omega arith) in λ i. f ∷ rest i

-- the word in which the bytes end, and the filled words behind it
first_word : (b s : List ℕ) (f n m room c : ℕ) → n ≤ length b → b ≡ take n b ++ tail f (7 - n) f → s ≡ tail f m c → (7 - n) + 1 + m ≡ room
    → b ++ s ≡ take n (b ++ s) ++ tail f room c
first_word b s f n m room c le front behind e =
    (λ i. front i ++ behind i)
    ∙ (append_assoc (take n b) (tail f (7 - n) f) (tail f m c)
    ∙ (λ i. sym (take-append-le n b s le) i ++ more_room f (7 - n) m room c e i))

-- a word of bytes alone
later_word : (b s t : List ℕ) (n m : ℕ) → length b + m ≡ n → s ≡ take m s ++ t → b ++ s ≡ take n (b ++ s) ++ t
later_word b s t n m e behind =
    ap (λ (l : List ℕ). b ++ l) behind
    ∙ (sym (append_assoc b (take m s) t)
    ∙ ap (λ (l : List ℕ). l ++ t) (sym (take-append-add b s m) ∙ ap (λ (k : ℕ). take k (b ++ s)) e))

ends_at : (w n m e : ℕ) → n ≡ m → EndsIn w n e → EndsIn w m e
ends_at w n m e is = subst (λ (k : ℕ). EndsIn w k e) is

-- The filling's byte and its word, and the last byte and its word.
module _ (f filling c last : ℕ) (of : to_be_bytes w64 filling ≡ tail f 7 f) (ends : to_be_bytes w64 last ≡ tail f 7 c) where
  -- filled words with one more before them
  rest_filled : (w : ℕ) (ws : List ℕ) (n m : ℕ) → n - 8 ≡ m → IsFilled (w ∷ ws) n filling last → IsFilled ws m filling last
  rest_filled w ws n m e is = (
    λ k lt. ends_at (get_or ws k 0) (n - 8 * suc k) (m - 8 * k) filling (omega arith) (is.0 (suc k) (omega arith)),
    λ k at. ends_at (get_or ws k 0) (n - 8 * suc k) (m - 8 * k) last (omega arith) (is.1 (suc k) (omega arith)),
  )

  last_word : (b : List ℕ) (n room : ℕ) → 7 - n ≡ room → b ≡ take n b ++ tail f (7 - n) c → b ≡ take n b ++ tail f room c
  last_word b n room e is = is ∙ ap (λ (k : ℕ). take n b ++ tail f k c) e

  -- behind the first bytes of filled words stands the filling, and then the last byte
  pub filled_spread : (ws : List ℕ) (n room : ℕ) → n + room + 1 ≡ 8 * length ws → IsFilled ws n filling last
      → spread ws ≡ take n (spread ws) ++ tail f room c
  filled_spread [] n room e is = absurd (omega arith)
  filled_spread (w ∷ []) n room e is =
      last_word (to_be_bytes w64 w) n room (omega arith)
      (filled_end w last n f c (omega arith) (ends_at w (n - 8 * 0) n last (omega arith) (is.1 0 refl)) ends)
  filled_spread (w ∷ v ∷ vs) n room e is = dite (ℕ_discrete (n - 7) 0)
      (λ few.
      let here = filled_end w filling n f f (omega arith) (ends_at w (n - 8 * 0) n filling (omega arith) (is.0 0 (omega arith))) of in
      let rest = filled_spread (v ∷ vs) 0 (8 * length (v ∷ vs) - 1) (omega arith) (rest_filled w (v ∷ vs) n 0 (omega arith) is) in
      first_word (to_be_bytes w64 w) (spread (v ∷ vs)) f n (8 * length (v ∷ vs) - 1) room c (omega arith) here rest (omega arith))
      (λ many.
      later_word (to_be_bytes w64 w) (spread (v ∷ vs)) (tail f room c) n (n - 8) (omega arith)
      (filled_spread (v ∷ vs) (n - 8) room (omega arith) (rest_filled w (v ∷ vs) n (n - 8) refl is)))

few : (n : ℕ) → n ≤ 63 → nat_lt 63 n ≡ false
few n le = grind (arith, nat_tests)

-- the bytes of a word of one byte, and of one that has 255 before it
low_bytes : (c : ℕ) → c < 256 → to_be_bytes w64 c ≡ tail 0 7 c
low_bytes c lt = λ i. bytes.0 i ∷ bytes.1 i ∷ bytes.2 i ∷ bytes.3 i ∷ bytes.4 i ∷ bytes.5 i ∷ bytes.6 i ∷ bytes.7 i ∷ []
  where
    bytes : (byte_at 7 c ≡ 0) × (byte_at 6 c ≡ 0) × (byte_at 5 c ≡ 0) × (byte_at 4 c ≡ 0)
        × (byte_at 3 c ≡ 0) × (byte_at 2 c ≡ 0) × (byte_at 1 c ≡ 0) × (c % 256 ≡ c)
    bytes = (omega arith, omega arith, omega arith, omega arith, omega arith, omega arith, omega arith, omega arith)

high_bytes : (c w : ℕ) → c < 256 → w ≡ ones - (255 - c) → to_be_bytes w64 w ≡ tail 255 7 c
high_bytes c w lt is = λ i. bytes.0 i ∷ bytes.1 i ∷ bytes.2 i ∷ bytes.3 i ∷ bytes.4 i ∷ bytes.5 i ∷ bytes.6 i ∷ bytes.7 i ∷ []
  where
    bytes : (byte_at 7 w ≡ 255) × (byte_at 6 w ≡ 255) × (byte_at 5 w ≡ 255) × (byte_at 4 w ≡ 255)
        × (byte_at 3 w ≡ 255) × (byte_at 2 w ≡ 255) × (byte_at 1 w ≡ 255) × (w % 256 ≡ c)
    bytes = (omega arith, omega arith, omega arith, omega arith, omega arith, omega arith, omega arith, omega arith)

-- Eight words.
module _ (ws : List ℕ) (long : length ws ≡ 8) (words : AreWords ws) where
  -- words whose bytes are those of a packed key pack it
  packs_by : (key : Key) → packed_bytes key ≡ spread ws → packed key ≡ ws
  unfolding packed
  packs_by key is =
      ap words_of is
      ∙ (ap (λ (n : ℕ). map (from_be_bytes w64) (first_chunks 8 n (spread ws))) (sym long) ∙ words_again ws words)

  front_long : (n : ℕ) → n ≤ 63 → length (take n (spread ws)) ≡ n
  front_long n le = length-take-le n (spread ws) (omega (arith, spread_length ws))

  front_valid : (n : ℕ) → n ≤ 63 → AreBytes (take n (spread ws)) × (nat_lt 63 (length (take n (spread ws))) ≡ false)
  front_valid n le = (
    All-take IsByte n (spread ws) (spread_small ws),
    few (length (take n (spread ws))) (let same = front_long n le in omega arith),
  )

  packs_bytes : (n code : ℕ) → n + 1 ≡ code → n ≤ 63 → IsFilled ws n 0 code → PacksKey ws
  packs_bytes n code e le is = (
    Bytes (take n (spread ws)),
    front_valid n le,
    packs_by (Bytes (take n (spread ws)))
        ((λ i. take n (spread ws) ++ tail 0 (63 - front_long n le i) (front_long n le i + 1))
        ∙ (ap (λ (k : ℕ). take n (spread ws) ++ tail 0 (63 - n) k) e
        ∙ sym (filled_spread 0 0 code code (low_bytes 0 (omega arith)) (low_bytes code (omega arith)) ws n (63 - n) (omega arith) is))),
  )

  packs_below : (n code : ℕ) → n ≡ 0 → code ≡ 0 → IsFilled ws n 0 code → PacksKey ws
  packs_below n code none e is = (
    Below,
    (All-nil IsByte, refl),
    packs_by Below
        (sym (filled_spread 0 0 0 0 (low_bytes 0 (omega arith)) (low_bytes 0 (omega arith)) ws 0 63 (omega arith)
        (subst (λ (p : ℕ × ℕ). IsFilled ws p.0 0 p.1) (λ i. (none i, e i)) is))),
  )

  packs_after : (n code last : ℕ) → n + code ≡ 254 → n ≤ 63 → last ≡ ones - (255 - code)
      → IsFilled ws n ones last → PacksKey ws
  packs_after n code last e le lasts is = (
    After (take n (spread ws)),
    front_valid n le,
    packs_by (After (take n (spread ws)))
        ((λ i. take n (spread ws) ++ tail 255 (63 - front_long n le i) (254 - front_long n le i))
        ∙ (ap (λ (k : ℕ). take n (spread ws) ++ tail 255 (63 - n) k) (let f : 254 - n ≡ code = omega arith in f)
        ∙ sym (filled_spread 255 ones code last (high_bytes 255 ones (omega arith) (omega arith)) (high_bytes code last (omega arith) lasts)
        ws n (63 - n) (omega arith) is))),
  )

  packs_above : (n code last : ℕ) → n ≡ 0 → code ≡ 255 → last ≡ ones - (255 - code)
      → IsFilled ws n ones last → PacksKey ws
  packs_above n code last none e lasts is = (
    Above,
    (All-nil IsByte, refl),
    packs_by Above
        (sym (filled_spread 255 ones 255 last (high_bytes 255 ones (omega arith) (omega arith))
        (high_bytes 255 last (omega arith) (omega arith))
        ws 0 63 (omega arith) (subst (λ (k : ℕ). IsFilled ws k ones last) none is))),
  )

  -- words that are filled as a key of this code is
  pub packs_low : (n code : ℕ) → code ≤ 64 → n ≡ code - 1 → IsFilled ws n 0 code → PacksKey ws
  packs_low n code le e is = dite (ℕ_discrete code 0)
      (λ none. packs_below n code (omega arith) none is)
      (λ some. packs_bytes n code (omega arith) (omega arith) is)

  pub packs_high : (n code last : ℕ) → 191 ≤ code → code < 256 → n ≡ 254 - code → last ≡ ones - (255 - code)
      → IsFilled ws n ones last → PacksKey ws
  packs_high n code last ge lt e lasts is = dite (ℕ_discrete code 255)
      (λ all. packs_above n code last (omega arith) all lasts is)
      (λ some. packs_after n code last (omega arith) (omega arith) lasts is)
