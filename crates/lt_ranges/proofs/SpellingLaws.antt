-- Bytes that are spelled alike are the same bytes.
use Rattle.std.proofs.Common.{◌≡◌, ◌≢◌, ℕ, ◌/◌, ◌%◌, ◌<◌, List, [], ◌∷◌, ◌++◌, Bool, true, false, cond, refl, sym, subst, ◌∙◌, arith, append_assoc}
use Rattle.std.proofs.lemmas.Bool.Decides.{nat_tests}
use Rattle.std.proofs.lemmas.List.Elements.{All-head, All-tail}
use Rattle.std.proofs.lemmas.List.{flat_map_more}
use Rattle.std.specs.Fmt.{digit_glyph}
use Rattle.lt_ranges.specs.Numbers.{AreBytes}
use Rattle.lt_ranges.specs.KeyText.{is_plain, byte_text, spelled}

digit_glyph_once : (m n : ℕ) → m < 16 → n < 16 → digit_glyph false m ≡ digit_glyph false n → m ≡ n
digit_glyph_once m n h k e = grind (arith, nat_tests)

-- two texts that begin with the texts of two bytes: it is one byte, and they go on alike
byte_texts_by : (b c : ℕ) (xs ys : List ℕ) (p q : Bool) → b < 256 → c < 256 → is_plain b ≡ p → is_plain c ≡ q →
    cond p (b ∷ []) (92 ∷ 120 ∷ digit_glyph false (b / 16) ∷ digit_glyph false (b % 16) ∷ []) ++ xs
    ≡ cond q (c ∷ []) (92 ∷ 120 ∷ digit_glyph false (c / 16) ∷ digit_glyph false (c % 16) ∷ []) ++ ys →
    (b ≡ c) × (xs ≡ ys)
byte_texts_by b c xs ys true true h k plain plain' e = (cc, cc)
byte_texts_by b c xs ys true false h k plain plain' e =
    let same : b ≡ 92 = cc in
    let wrong : is_plain 92 ≡ true = subst (λ n. is_plain n ≡ true) same plain in
    cc
byte_texts_by b c xs ys false true h k plain plain' e =
    let same : c ≡ 92 = cc in
    let wrong : is_plain 92 ≡ true = subst (λ n. is_plain n ≡ true) same plain' in
    cc
byte_texts_by b c xs ys false false h k plain plain' e =
    let high : digit_glyph false (b / 16) ≡ digit_glyph false (c / 16) = cc in
    let low : digit_glyph false (b % 16) ≡ digit_glyph false (c % 16) = cc in
    let highs : b / 16 ≡ c / 16 = digit_glyph_once (b / 16) (c / 16) (omega arith) (omega arith) high in
    let lows : b % 16 ≡ c % 16 = digit_glyph_once (b % 16) (c % 16) (omega arith) (omega arith) low in
    (omega arith, cc)

pub byte_texts : (b c : ℕ) (xs ys : List ℕ) → b < 256 → c < 256 → byte_text b ++ xs ≡ byte_text c ++ ys → (b ≡ c) × (xs ≡ ys)
byte_texts b c xs ys h k e = byte_texts_by b c xs ys (is_plain b) (is_plain c) h k refl refl e

-- the text of a byte isn't empty
nonempty_by : (b : ℕ) (xs : List ℕ) (p : Bool) → cond p (b ∷ []) (92 ∷ 120 ∷ digit_glyph false (b / 16) ∷ digit_glyph false (b % 16) ∷ []) ++ xs ≢ []
nonempty_by b xs true e = cc
nonempty_by b xs false e = cc

pub byte_text_nonempty : (b : ℕ) (xs : List ℕ) → byte_text b ++ xs ≢ []
byte_text_nonempty b xs e = nonempty_by b xs (is_plain b) e

abbrev pub IsByte : ℕ → Type 0
IsByte byte = byte < 256

pub spelled-push : (bytes : List ℕ) (byte : ℕ) → spelled (bytes ++ byte ∷ []) ≡ spelled bytes ++ byte_text byte
spelled-push bytes byte = sym (flat_map_more byte_text [] bytes byte)

-- a text of bytes that begins as that of others is the text of the others and then of some more
pub record GoesOn (more done rest : List ℕ) : Type 0 where
  pub after : List ℕ
  pub of_bytes : AreBytes after
  pub split : more ≡ done ++ after
  pub spells : rest ≡ spelled after

pub goes_on : (more done rest : List ℕ) → AreBytes more → AreBytes done → spelled more ≡ spelled done ++ rest → GoesOn more done rest
goes_on more [] rest h k e = record { after = more; of_bytes = h; split = refl; spells = sym e }
goes_on [] (d ∷ ds) rest h k e =
    absurd (byte_text_nonempty d (spelled ds ++ rest) (sym (append_assoc (byte_text d) (spelled ds) rest) ∙ sym e))
goes_on (m ∷ ms) (d ∷ ds) rest h k e =
    let heads = byte_texts m d (spelled ms) (spelled ds ++ rest) (All-head IsByte m ms h) (All-head IsByte d ds k) (e ∙ append_assoc (byte_text d) (spelled ds) rest) in
    let tails = goes_on ms ds rest (All-tail IsByte m ms h) (All-tail IsByte d ds k) heads.1 in
    record {
      after = tails.after;
      of_bytes = tails.of_bytes;
      split = (λ i. heads.0 i ∷ tails.split i);
      spells = tails.spells;
    }

-- bytes that are spelled alike are the same
pub spelled_once : (xs ys : List ℕ) → AreBytes xs → AreBytes ys → spelled xs ≡ spelled ys → xs ≡ ys
spelled_once [] [] h k e = refl
spelled_once [] (y ∷ ys) h k e = absurd (byte_text_nonempty y (spelled ys) (sym e))
spelled_once (x ∷ xs) [] h k e = absurd (byte_text_nonempty x (spelled xs) e)
spelled_once (x ∷ xs) (y ∷ ys) h k e =
    let heads = byte_texts x y (spelled xs) (spelled ys) (All-head IsByte x xs h) (All-head IsByte y ys k) e in
    λ i. heads.0 i ∷ spelled_once xs ys (All-tail IsByte x xs h) (All-tail IsByte y ys k) heads.1 i
