-- What the end of a word says of its bytes.
use Rattle.std.proofs.Common.{◌≡◌, ℕ, zero, suc, ◌-◌, ◌/◌, ◌%◌, ◌<◌, List, [], ◌∷◌, ◌++◌, take, drop, replicate, refl, ap, ◌∙◌, arith}
use Rattle.std.specs.Int.{w64, byte_at, to_be_bytes, bytes_high_first}
use Rattle.lt_rows.specs.Packing.{EndsIn}

-- The lowest bytes of two words that are equal as far as these.
module _ (w e : ℕ) where
  abbrev Low : ℕ → Type 0
  Low j = bytes_high_first (suc j) w ≡ bytes_high_first (suc j) e

  low_0 : w % 256 ≡ e % 256 → Low 0
  low_0 same = λ i. same i ∷ []

  low_1 : w % 65536 ≡ e % 65536 → Low 1
  low_1 same =
      let byte : w / 256 % 256 ≡ e / 256 % 256 = omega arith in
      let rest = low_0 (omega arith) in
      λ i. byte i ∷ rest i

  low_2 : w % 16777216 ≡ e % 16777216 → Low 2
  low_2 same =
      let byte : w / 65536 % 256 ≡ e / 65536 % 256 = omega arith in
      let rest = low_1 (omega arith) in
      λ i. byte i ∷ rest i

  low_3 : w % 4294967296 ≡ e % 4294967296 → Low 3
  low_3 same =
      let byte : w / 16777216 % 256 ≡ e / 16777216 % 256 = omega arith in
      let rest = low_2 (omega arith) in
      λ i. byte i ∷ rest i

  low_4 : w % 1099511627776 ≡ e % 1099511627776 → Low 4
  low_4 same =
      let byte : w / 4294967296 % 256 ≡ e / 4294967296 % 256 = omega arith in
      let rest = low_3 (omega arith) in
      λ i. byte i ∷ rest i

  low_5 : w % 281474976710656 ≡ e % 281474976710656 → Low 5
  low_5 same =
      let byte : w / 1099511627776 % 256 ≡ e / 1099511627776 % 256 = omega arith in
      let rest = low_4 (omega arith) in
      λ i. byte i ∷ rest i

  low_6 : w % 72057594037927936 ≡ e % 72057594037927936 → Low 6
  low_6 same =
      let byte : w / 281474976710656 % 256 ≡ e / 281474976710656 % 256 = omega arith in
      let rest = low_5 (omega arith) in
      λ i. byte i ∷ rest i

  low_7 : w % 18446744073709551616 ≡ e % 18446744073709551616 → Low 7
  low_7 same =
      let byte : w / 72057594037927936 % 256 ≡ e / 72057594037927936 % 256 = omega arith in
      let rest = low_6 (omega arith) in
      λ i. byte i ∷ rest i

-- from that place on its bytes are those of the other
pub word_end : (w e r : ℕ) → r < 8 → EndsIn w r e → to_be_bytes w64 w ≡ take r (to_be_bytes w64 w) ++ drop r (to_be_bytes w64 e)
word_end w e zero lt ends =
    let rest = low_7 w e (let same = ends lt in omega arith) in λ i. rest i
word_end w e (suc zero) lt ends =
    let rest = low_6 w e (let same = ends lt in omega arith) in
    λ i. byte_at 7 w ∷ rest i
word_end w e (suc (suc zero)) lt ends =
    let rest = low_5 w e (let same = ends lt in omega arith) in
    λ i. byte_at 7 w ∷ byte_at 6 w ∷ rest i
word_end w e (suc (suc (suc zero))) lt ends =
    let rest = low_4 w e (let same = ends lt in omega arith) in
    λ i. byte_at 7 w ∷ byte_at 6 w ∷ byte_at 5 w ∷ rest i
word_end w e (suc (suc (suc (suc zero)))) lt ends =
    let rest = low_3 w e (let same = ends lt in omega arith) in
    λ i. byte_at 7 w ∷ byte_at 6 w ∷ byte_at 5 w ∷ byte_at 4 w ∷ rest i
word_end w e (suc (suc (suc (suc (suc zero))))) lt ends =
    let rest = low_2 w e (let same = ends lt in omega arith) in
    λ i. byte_at 7 w ∷ byte_at 6 w ∷ byte_at 5 w ∷ byte_at 4 w ∷ byte_at 3 w ∷ rest i
word_end w e (suc (suc (suc (suc (suc (suc zero)))))) lt ends =
    let rest = low_1 w e (let same = ends lt in omega arith) in
    λ i. byte_at 7 w ∷ byte_at 6 w ∷ byte_at 5 w ∷ byte_at 4 w ∷ byte_at 3 w ∷ byte_at 2 w ∷ rest i
word_end w e (suc (suc (suc (suc (suc (suc (suc zero))))))) lt ends =
    let rest = low_0 w e (let same = ends lt in omega arith) in
    λ i. byte_at 7 w ∷ byte_at 6 w ∷ byte_at 5 w ∷ byte_at 4 w ∷ byte_at 3 w ∷ byte_at 2 w ∷ byte_at 1 w ∷ rest i
word_end w e (suc (suc (suc (suc (suc (suc (suc (suc r)))))))) lt ends = absurd (omega arith)

-- behind r of eight bytes, seven of which are the same
behind : (r f c : ℕ) → r < 8 → drop r (replicate 7 f ++ c ∷ []) ≡ replicate (7 - r) f ++ c ∷ []
behind zero f c lt = refl
behind (suc zero) f c lt = refl
behind (suc (suc zero)) f c lt = refl
behind (suc (suc (suc zero))) f c lt = refl
behind (suc (suc (suc (suc zero)))) f c lt = refl
behind (suc (suc (suc (suc (suc zero))))) f c lt = refl
behind (suc (suc (suc (suc (suc (suc zero)))))) f c lt = refl
behind (suc (suc (suc (suc (suc (suc (suc zero))))))) f c lt = refl
behind (suc (suc (suc (suc (suc (suc (suc (suc r)))))))) f c lt = absurd (omega arith)

-- a word that ends in a filling and a last byte
pub filled_end : (w e r f c : ℕ) → r < 8 → EndsIn w r e → to_be_bytes w64 e ≡ replicate 7 f ++ c ∷ []
    → to_be_bytes w64 w ≡ take r (to_be_bytes w64 w) ++ (replicate (7 - r) f ++ c ∷ [])
filled_end w e r f c lt ends is =
    word_end w e r lt ends ∙ ap (λ (l : List ℕ). take r (to_be_bytes w64 w) ++ l) (ap (drop r) is ∙ behind r f c lt)
