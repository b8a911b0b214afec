-- Each key has one text, of at most 255 bytes.
use Rattle.std.proofs.Common.{◌≡◌, ℕ, ◌*◌, ◌≤◌, List, [], ◌∷◌, length, get_or, false, nat_lt, ap, refl, arith, length-append}
use Rattle.std.proofs.lemmas.Bool.Decides.{nat_tests}
use Rattle.lt_ranges.specs.declared.key.Key.{Key}
use Rattle.lt_ranges.specs.declared.key.Key.TheVariants.{Below, Bytes, After, Above}
use Rattle.lt_ranges.specs.KeyText.{byte_text, spelled, quoted, key_text, IsOfBytes, is_long}
use Rattle.lt_ranges.proofs.SpellingLaws.{spelled_once}
use Rattle.lt_ranges.proofs.QuotingLaws.{same_inside, same_front}

first : {xs ys : List ℕ} → xs ≡ ys → get_or xs 0 0 ≡ get_or ys 0 0
first e = ap (λ t. get_or t 0 0) e

-- keys of one text are the same key
pub text_once : (x y : Key) → IsOfBytes x → IsOfBytes y → key_text x ≡ key_text y → x ≡ y
text_once Below Below h k e = refl
text_once Below (Bytes ys) h k e = absurd (omega (arith, first e))
text_once Below (After ys) h k e = absurd (omega (arith, first e))
text_once Below Above h k e = absurd (omega (arith, first e))
text_once (Bytes xs) Below h k e = absurd (omega (arith, first e))
text_once (Bytes xs) (Bytes ys) h k e = ap Bytes (spelled_once xs ys h k (same_inside (spelled xs) (spelled ys) e))
text_once (Bytes xs) (After ys) h k e = absurd (omega (arith, (same_front (34 ∷ spelled xs) (quoted ys) 34 42 e).1))
text_once (Bytes xs) Above h k e = absurd (omega (arith, first e))
text_once (After xs) Below h k e = absurd (omega (arith, first e))
text_once (After xs) (Bytes ys) h k e = absurd (omega (arith, (same_front (quoted xs) (34 ∷ spelled ys) 42 34 e).1))
text_once (After xs) (After ys) h k e =
    ap After (spelled_once xs ys h k (same_inside (spelled xs) (spelled ys) (same_front (quoted xs) (quoted ys) 42 42 e).0))
text_once (After xs) Above h k e = absurd (omega (arith, first e))
text_once Above Below h k e = absurd (omega (arith, first e))
text_once Above (Bytes ys) h k e = absurd (omega (arith, first e))
text_once Above (After ys) h k e = absurd (omega (arith, first e))
text_once Above Above h k e = refl

length-byte_text : (byte : ℕ) → length (byte_text byte) ≤ 4
length-byte_text byte = grind arith

length-spelled : (bytes : List ℕ) → length (spelled bytes) ≤ 4 * length bytes
length-spelled [] = omega arith
length-spelled (byte ∷ bytes) =
    omega (arith, length-append (byte_text byte) (spelled bytes), length-byte_text byte, length-spelled bytes)

few : (bytes : List ℕ) → nat_lt 63 (length bytes) ≡ false → length bytes ≤ 63
few bytes h = grind (arith, nat_tests)

pub length-key_text : (key : Key) → is_long key ≡ false → length (key_text key) ≤ 255
length-key_text Below h = omega arith
length-key_text (Bytes bytes) h =
    omega (arith, few bytes h, length-spelled bytes, length-append (spelled bytes) (34 ∷ []))
length-key_text (After bytes) h =
    omega (arith, few bytes h, length-spelled bytes, length-append (spelled bytes) (34 ∷ []), length-append (quoted bytes) (42 ∷ []))
length-key_text Above h = omega arith
