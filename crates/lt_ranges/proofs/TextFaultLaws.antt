-- What is wrong with a text, by what is wrong with a part of it.
use Rattle.std.proofs.Common.{◌≡◌, ◌≢◌, ℕ, ◌+◌, ◌-◌, ◌≤◌, ◌<◌, List, [], ◌∷◌, ◌++◌, length, get_or, sym, ap, ◌∙◌, arith, length-append}
use Rattle.std.specs.Prelude.{Result, Ok, Err, IfErr, IsTrue, nat_lt}
use Rattle.std.proofs.lemmas.Bool.Decides.{nat_tests}
use Rattle.std.proofs.lemmas.List.{get_or_at}
use Rattle.lt_ranges.specs.declared.text_fault.TextFault.{TextFault}
use Rattle.lt_ranges.specs.declared.text_fault.TextFault.TheVariants.{NotText, TooLong}
use Rattle.lt_ranges.specs.declared.key.Key.{Key}
use Rattle.lt_ranges.specs.declared.key.Key.TheVariants.{Below, Bytes, After, Above}
use Rattle.lt_ranges.specs.KeyText.{spelled, quoted, key_text, IsOfBytes}
use Rattle.lt_ranges.specs.TextFault.{IsFaultOf, IsTextFault}
use Rattle.lt_ranges.proofs.QuotingLaws.{same_inside, same_front}

-- a fault inside is a fault of the whole
pub fault_outside : (text inside : List ℕ) (fault : TextFault) → text ≡ 34 ∷ (inside ++ 34 ∷ []) → IsFaultOf spelled inside fault → IsFaultOf quoted text fault
fault_outside text inside NotText e none = λ bytes are same. none bytes are (same_inside inside (spelled bytes) (sym e ∙ same))
fault_outside text inside TooLong e long = (long.0, long.1, long.2, e ∙ ap (λ i. 34 ∷ (i ++ 34 ∷ [])) long.3)

pub fault_around : {T : Type 0} (text inside : List ℕ) (r : Result T TextFault) → text ≡ 34 ∷ (inside ++ 34 ∷ []) → IfErr r (IsFaultOf spelled inside) → IfErr r (IsFaultOf quoted text)
fault_around text inside (Ok bytes) e h = tt
fault_around text inside (Err fault) e h = fault_outside text inside fault e h

is_long_by : (bytes : List ℕ) → 63 < length bytes → IsTrue (nat_lt 63 (length bytes))
is_long_by bytes h = grind (arith, nat_tests)

-- what is wrong with a text that ends with a star
pub fault_with_star : (text front : List ℕ) (fault : TextFault) → text ≡ front ++ 42 ∷ [] → IsFaultOf quoted front fault → IsTextFault text fault
fault_with_star text front NotText e none = by
  where
    by : (key : Key) → IsOfBytes key → text ≢ key_text key
    by Below are same = absurd (omega (arith, (same_front [] front 45 42 (sym same ∙ e)).1))
    by (Bytes bytes) are same = absurd (omega (arith, (same_front (34 ∷ spelled bytes) front 34 42 (sym same ∙ e)).1))
    by (After bytes) are same = none bytes are (sym (same_front (quoted bytes) front 42 42 (sym same ∙ e)).0)
    by Above are same = absurd (omega (arith, (same_front [] front 43 42 (sym same ∙ e)).1))
fault_with_star text front TooLong e long = (After long.0, long.1, is_long_by long.0 long.2, e ∙ ap (λ f. f ++ 42 ∷ []) long.3)

-- what is wrong with any other text
pub fault_without_star : (text : List ℕ) (fault : TextFault) → text ≢ 45 ∷ [] → text ≢ 43 ∷ [] → (1 ≤ length text → get_or text (length text - 1) 0 ≢ 42) → IsFaultOf quoted text fault → IsTextFault text fault
fault_without_star text NotText below above star none = by
  where
    by : (key : Key) → IsOfBytes key → text ≢ key_text key
    by Below are same = below same
    by (Bytes bytes) are same = none bytes are same
    by (After bytes) are same =
        let long : length text ≡ length (quoted bytes) + 1 = omega (arith, ap length same, length-append (quoted bytes) (42 ∷ [])) in
        star (omega arith) (ap (λ t. get_or t (length text - 1) 0) same ∙ get_or_at (quoted bytes) 42 [] 0 (length text - 1) (omega arith))
    by Above are same = above same
fault_without_star text TooLong below above star long = (Bytes long.0, long.1, is_long_by long.0 long.2, long.3)
