-- Which bytes the parts of a line lack.
use Rattle.std.proofs.Common.{◌≡◌, ◌≢◌, ℕ, ◌+◌, ◌/◌, ◌%◌, ◌^◌, ◌<◌, ◌≤◌, ◌⊎◌, lit<, lit≤, List, [], ◌∷◌, Bool, true, false, cond, refl, arith}
use Rattle.std.specs.Fmt.{decimal, digit_glyph}
use Rattle.std.proofs.lemmas.Fmt.{decimal_by_steps}
use Rattle.lt_ranges.specs.KeyText.{is_plain, byte_text}
use Rattle.std.proofs.lemmas.Bool.Decides.{nat_tests}
use Rattle.lt_trace.specs.Cut.{Lacks}
use Rattle.lt_trace.proofs.CutLaws.{lacks_append}

-- a number is spelled by digits
pub decimal_lacks : (b n : ℕ) → n < 2 ^ 64 → b < 48 → Lacks b (decimal n)
decimal_lacks b n small low =
    decimal_by_steps (λ n ds. Lacks b ds)
    (λ n h. (omega arith, tt))
    (λ n ds h lacks. lacks_append b ds ((48 + n % 10) ∷ []) lacks (omega arith, tt))
    n small

-- what is chosen by a test has what both choices have
chosen : (P : List ℕ → Type 0) (b : Bool) (xs ys : List ℕ) → (b ≡ true → P xs) → P ys → P (cond b xs ys)
chosen P true xs ys x y = x refl
chosen P false xs ys x y = y

glyph_high : (d : ℕ) → 48 ≤ digit_glyph false d
glyph_high d = grind arith

-- a byte is spelled by bytes from the space on, save the quotation mark
pub byte_lacks : (b byte : ℕ) → (b < 32) ⊎ (b ≡ 34) → Lacks b (byte_text byte)
byte_lacks b byte special =
    chosen (Lacks b) (is_plain byte) (byte ∷ []) (92 ∷ 120 ∷ digit_glyph false (byte / 16) ∷ digit_glyph false (byte % 16) ∷ [])
    (λ plain. (plain_differs plain, tt))
    (low 92 (lit≤ tt) (lit< tt), (low 120 (lit≤ tt) (lit< tt), (high (byte / 16), (high (byte % 16), tt))))
  where
    plain_differs : is_plain byte ≡ true → byte ≢ b
    plain_differs plain = grind (arith, nat_tests)

    low : (n : ℕ) → 35 ≤ n → n < 200 → n ≢ b
    low n from to = grind arith

    low_glyph : (n : ℕ) → 48 ≤ n → n ≢ b
    low_glyph n from = grind arith

    high : (d : ℕ) → digit_glyph false d ≢ b
    high d = let h = glyph_high d in low_glyph (digit_glyph false d) h
