-- How far the reading of a text has come.
use Rattle.std.proofs.Common.{◌≡◌, ◌≢◌, ℕ, ◌≤◌, ◌<◌, List, [], ◌∷◌, ◌++◌, length, take, Bool, true, false, refl, sym, ap, ◌∙◌, arith, append-nil, append_assoc, length-take}
use Rattle.std.specs.Prelude.{nat_lt}
use Rattle.std.proofs.lemmas.List.{take-append-le, take_all, length_push}
use Rattle.std.proofs.lemmas.List.Elements.{All-head, All-push}
use Rattle.std.proofs.lemmas.Bool.Decides.{nat_tests}
use Rattle.lt_ranges.specs.Numbers.{AreBytes}
use Rattle.lt_ranges.specs.KeyText.{byte_text, spelled}
use Rattle.lt_ranges.proofs.SpellingLaws.{IsByte, GoesOn, goes_on, spelled-push}

-- Of the text the rest is left. Up to 63 bytes before it are stored, and it is known whether there were more.
pub record HasRead (text rest stored : List ℕ) (is_long : Bool) : Type 0 where
  pub bytes : List ℕ
  pub of_bytes : AreBytes bytes
  pub split : text ≡ spelled bytes ++ rest
  pub kept : stored ≡ take 63 bytes
  pub long : is_long ≡ nat_lt 63 (length bytes)

empty : (xs : List ℕ) → length xs ≡ 0 → xs ≡ []
empty [] e = refl
empty (x ∷ xs) e = absurd (omega arith)

module _ {text rest stored : List ℕ} {is_long : Bool} (read : HasRead text rest stored is_long) where
  pub kept_few : length stored ≤ 63
  kept_few = omega (arith, ap length read.kept, length-take 63 read.bytes)

  -- where no byte is spelled next, the text spells no bytes at all
  pub unread : 0 < length rest → ((byte : ℕ) (behind : List ℕ) → byte < 256 → rest ≢ byte_text byte ++ behind) → (bytes : List ℕ) → AreBytes bytes → text ≢ spelled bytes
  unread some none bytes are e = stops (goes_on bytes read.bytes rest are read.of_bytes (sym e ∙ read.split))
    where
      stops_by : (after : List ℕ) → AreBytes after → rest ≢ spelled after
      stops_by [] h k = absurd (omega (arith, ap length k))
      stops_by (byte ∷ behind) h k = none byte (spelled behind) (All-head IsByte byte behind h) k

      stops : GoesOn bytes read.bytes rest → ⊥
      stops on = stops_by on.after on.of_bytes on.spells

  module _ (byte : ℕ) (behind : List ℕ) (small : byte < 256) (next : rest ≡ byte_text byte ++ behind) where
    split_more : text ≡ spelled (read.bytes ++ byte ∷ []) ++ behind
    split_more =
        read.split ∙ ap (λ r. spelled read.bytes ++ r) next
        ∙ sym (append_assoc (spelled read.bytes) (byte_text byte) behind)
        ∙ ap (λ r. r ++ behind) (sym (spelled-push read.bytes byte))

    -- one more byte, with no room for it
    pub one_past : length stored ≡ 63 → HasRead text behind stored true
    one_past full =
        let many : 63 ≤ length read.bytes = omega (arith, ap length read.kept, length-take 63 read.bytes) in
        record {
          bytes = read.bytes ++ byte ∷ [];
          of_bytes = All-push IsByte read.bytes byte read.of_bytes small;
          split = split_more;
          kept = read.kept ∙ sym (take-append-le 63 read.bytes (byte ∷ []) many);
          long = grind (arith, nat_tests, length_push read.bytes byte);
        }

    -- one more byte, with room for it
    pub one_more : length stored < 63 → HasRead text behind (stored ++ byte ∷ []) is_long
    one_more room =
        let few : length read.bytes < 63 = omega (arith, ap length read.kept, length-take 63 read.bytes) in
        record {
          bytes = read.bytes ++ byte ∷ [];
          of_bytes = All-push IsByte read.bytes byte read.of_bytes small;
          split = split_more;
          kept = ap (λ r. r ++ byte ∷ []) (read.kept ∙ take_all 63 read.bytes (omega arith)) ∙ sym (take_all 63 (read.bytes ++ byte ∷ []) (omega (arith, length_push read.bytes byte)));
          long = grind (arith, nat_tests, read.long, length_push read.bytes byte);
        }

  module _ (none : length rest ≡ 0) where
    split_all : text ≡ spelled read.bytes
    split_all = read.split ∙ ap (λ r. spelled read.bytes ++ r) (empty rest none) ∙ append-nil (spelled read.bytes)

    -- all is read, and it fits
    pub read_all : is_long ≡ false → text ≡ spelled stored
    read_all fits =
        let few : length read.bytes ≤ 63 = grind (arith, nat_tests, read.long) in
        split_all ∙ ap spelled (sym (read.kept ∙ take_all 63 read.bytes few))

    -- all is read, and it doesn't
    pub read_past : is_long ≡ true → (bytes : List ℕ) × AreBytes bytes × (63 < length bytes) × (text ≡ spelled bytes)
    read_past past = (read.bytes, read.of_bytes, grind (arith, nat_tests, read.long), split_all)
