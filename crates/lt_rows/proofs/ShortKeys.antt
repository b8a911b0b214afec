-- Words of a key of up to eight bytes.
use Rattle.std.proofs.Common.{◌≡◌, ◌≢◌, ℕ, zero, suc, ◌-◌, ◌*◌, ◌^◌, ◌%◌, ◌<◌, ◌≤◌, List, [], ◌∷◌, length, take, get_or, refl, sym, ap, ◌∙◌, subst, arith, true}
use Rattle.std.specs.Prelude.{slice_index, nat_eq, Option, Some, None}
use Rattle.std.specs.Prelude.{Result, Ok, Err, IsErr, IfOk}
use Rattle.std.specs.Result.{result_unwrap_or}
use borrow.Author.Tests.{eqb-true}
use Rattle.std.specs.Int.{w64, to_be_bytes}
use Rattle.std.proofs.lemmas.Nat.{le_or_l, le_or_r}
use Rattle.std.proofs.lemmas.List.{take-append-le}
use Rattle.std.specs.Int.RustNames.{bit_or}
use Rattle.std.proofs.lemmas.Bool.Decides.{nat_tests}
use Rattle.lt_ranges.specs.declared.key.Key.{Key}
use Rattle.lt_ranges.specs.declared.key.Key.TheVariants.{Below, Bytes}
use Rattle.lt_ranges.specs.Packing.{spread, coded}
use Rattle.lt_rows.specs.Nodes.{key_of, or_below}
use Rattle.lt_rows.specs.Packing.{AreBare, EndsIn, IsFilled, PacksShort}
use Rattle.lt_rows.proofs.PackedKeys.{key_by_its_code}

-- words whose union is 0 are 0
pub none_or : (a b : ℕ) → bit_or a b ≡ 0 → (a ≡ 0) × (b ≡ 0)
none_or a b e = (omega (arith, le_or_l a b), omega (arith, le_or_r a b))

-- six words whose union is 0
pub all_bare : (ws : List ℕ) → nat_eq (bit_or (bit_or (bit_or (bit_or (bit_or (slice_index ws 1) (slice_index ws 2)) (slice_index ws 3)) (slice_index ws 4)) (slice_index ws 5)) (slice_index ws 6)) 0 ≡ true → AreBare ws
all_bare ws e =
    let six = none_or _ (slice_index ws 6) (eqb-true _ 0 e) in
    let five = none_or _ (slice_index ws 5) six.0 in
    let four = none_or _ (slice_index ws 4) five.0 in
    let three = none_or _ (slice_index ws 3) four.0 in
    let two = none_or (slice_index ws 1) (slice_index ws 2) three.0 in
    by_place two.0 two.1 three.1 four.1 five.1 six.1
  where
    by_place : slice_index ws 1 ≡ 0 → slice_index ws 2 ≡ 0 → slice_index ws 3 ≡ 0 → slice_index ws 4 ≡ 0 → slice_index ws 5 ≡ 0 → slice_index ws 6 ≡ 0 → AreBare ws
    by_place a b c d e f zero lt = a
    by_place a b c d e f (suc zero) lt = b
    by_place a b c d e f (suc (suc zero)) lt = c
    by_place a b c d e f (suc (suc (suc zero))) lt = d
    by_place a b c d e f (suc (suc (suc (suc zero)))) lt = e
    by_place a b c d e f (suc (suc (suc (suc (suc zero))))) lt = f
    by_place a b c d e f (suc (suc (suc (suc (suc (suc k)))))) lt = absurd (omega arith)

at_end : (ws : List ℕ) (n k : ℕ) → 7 ≡ k → EndsIn (slice_index ws k) (n - 8 * k) (slice_index ws 7)
at_end ws n k e = subst (λ (j : ℕ). EndsIn (slice_index ws j) (n - 8 * j) (slice_index ws 7)) e (λ lt. refl)

-- the first word ends in zeros, and the others are 0 but for the last
pub bare_filled : (ws : List ℕ) (n : ℕ) → length ws ≡ 8 → EndsIn (slice_index ws 0) n 0 → AreBare ws → IsFilled ws n 0 (slice_index ws 7)
bare_filled ws n long first bare = (each, λ k last. at_end ws n k (omega arith))
  where
    each : (k : ℕ) → suc k < length ws → EndsIn (slice_index ws k) (n - 8 * k) 0
    each zero lt = subst (λ (m : ℕ). EndsIn (slice_index ws 0) m 0) (let e : n ≡ n - 8 * 0 = omega arith in e) first
    each (suc k) lt = λ small. ap (λ (w : ℕ). (w * 2 ^ (8 * (n - 8 * suc k))) % 2 ^ 64) (bare k (omega arith))

-- the last byte of eight words is the last word, where that is a byte
pub last_byte : (ws : List ℕ) → length ws ≡ 8 → slice_index ws 7 < 256 → slice_index (spread ws) 63 ≡ slice_index ws 7
last_byte [] long small = absurd (omega arith)
last_byte (a ∷ []) long small = absurd (omega arith)
last_byte (a ∷ b ∷ []) long small = absurd (omega arith)
last_byte (a ∷ b ∷ c ∷ []) long small = absurd (omega arith)
last_byte (a ∷ b ∷ c ∷ d ∷ []) long small = absurd (omega arith)
last_byte (a ∷ b ∷ c ∷ d ∷ e ∷ []) long small = absurd (omega arith)
last_byte (a ∷ b ∷ c ∷ d ∷ e ∷ f ∷ []) long small = absurd (omega arith)
last_byte (a ∷ b ∷ c ∷ d ∷ e ∷ f ∷ g ∷ []) long small = absurd (omega arith)
last_byte (a ∷ b ∷ c ∷ d ∷ e ∷ f ∷ g ∷ h ∷ more) long small = let is : h % 256 ≡ h = omega arith in is

-- the first eight bytes are those of the first word
pub first_bytes : (ws : List ℕ) (n : ℕ) → 0 < length ws → n ≤ 8 → take n (to_be_bytes w64 (slice_index ws 0)) ≡ take n (spread ws)
first_bytes [] n some few = absurd (omega arith)
first_bytes (w ∷ ws) n some few = sym (take-append-le n (to_be_bytes w64 w) (spread ws) few)

coded_none : (bytes : List ℕ) (code : ℕ) → code ≡ 0 → coded bytes code ≡ Some Below
coded_none bytes code none = grind (arith, nat_tests)

coded_some : (bytes : List ℕ) (code : ℕ) → code ≢ 0 → code ≤ 9 → coded bytes code ≡ Some (Bytes (take (code - 1) bytes))
coded_some bytes code some few = grind (arith, nat_tests)

-- a key of few bytes is not refused
pub not_refused : {E : Type 0} (bytes : List ℕ) (r : Result Key E) → length bytes ≤ 63 → (IsErr r → 63 < length bytes) → IfOk r (λ key. key ≡ Bytes bytes)
    → result_unwrap_or r Below ≡ Bytes bytes
not_refused bytes (Ok key) few refused is = is
not_refused bytes (Err e) few refused is = absurd (omega (arith, refused refl))

-- The key of words that pack a short one.
module _ (ws : List ℕ) (long : length ws ≡ 8) (p : PacksShort ws) where
  by_code : or_below (coded (spread ws) (slice_index ws 7)) ≡ key_of ws
  by_code =
      ap (λ (code : ℕ). or_below (coded (spread ws) code)) (sym (last_byte ws long (omega (arith, p.1))))
      ∙ key_by_its_code ws p.0

  pub short_below : slice_index ws 7 ≡ 0 → Below ≡ key_of ws
  short_below none = ap or_below (sym (coded_none (spread ws) (slice_index ws 7) none)) ∙ by_code

  pub short_bytes : slice_index ws 7 ≢ 0 → Bytes (take (slice_index ws 7 - 1) (to_be_bytes w64 (slice_index ws 0))) ≡ key_of ws
  short_bytes some =
      ap Bytes (first_bytes ws (slice_index ws 7 - 1) (omega arith) (omega (arith, p.1)))
      ∙ (ap or_below (sym (coded_some (spread ws) (slice_index ws 7) some p.1)) ∙ by_code)
