-- Texts that are read as the key of a cut, and texts that are not.
use Rattle.std.proofs.Common.{◌≡◌, List, ℕ, Result, Ok, Err, IfOk, IfErr, true≢false, ◌∙◌, sym, ap, Some, None}
use Rattle.std.specs.Result.{result_ok}
use Rattle.lt_ranges.specs.declared.key.Key.{Key}
use Rattle.lt_ranges.specs.declared.key.Key.TheVariants.{Below, Bytes, After, Above}
use Rattle.lt_ranges.specs.declared.text_fault.TextFault.{TextFault}
use Rattle.lt_ranges.specs.declared.text_fault.TextFault.TheVariants.{NotText, TooLong}
use Rattle.lt_ranges.specs.KeyText.{key_text, IsOfBytes, is_long}
use Rattle.lt_ranges.specs.TextFault.{IsTextFault}
use Rattle.lt_ranges.proofs.KeyTextLaws.{text_once}
use Rattle.lt_words.specs.Reading.{SpellsMark}

-- where no key in quotation marks is read, the text spells none
pub no_mark : (text : List ℕ) (r : Result Key TextFault) → IfOk r (λ key. text ≡ key_text key) → IfOk r IsOfBytes
    → IfErr r (IsTextFault text) → ((bytes : List ℕ) → r ≡ Ok (Bytes bytes) → ⊥) → (mark : Key) → SpellsMark text mark → ⊥
no_mark text r value of_bytes fault other Below s = s.mark_is
no_mark text r value of_bytes fault other (After bytes) s = s.mark_is
no_mark text r value of_bytes fault other Above s = s.mark_is
no_mark text (Ok key) value of_bytes fault other (Bytes bytes) s =
    other bytes (ap Ok (text_once key (Bytes bytes) of_bytes s.mark_is.0 (sym value ∙ s.spelled)))
no_mark text (Err NotText) value of_bytes fault other (Bytes bytes) s = fault (Bytes bytes) s.mark_is.0 s.spelled
no_mark text (Err TooLong) value of_bytes fault other (Bytes bytes) s =
    let same = text_once fault.0 (Bytes bytes) fault.1 s.mark_is.0 (sym fault.3 ∙ s.spelled) in
    true≢false (sym fault.2 ∙ ap is_long same ∙ s.mark_is.1)

-- where nothing is read, no key is
pub none_read : (r : Result Key TextFault) (key : Key) → None ≡ result_ok r → r ≡ Ok key → ⊥
none_read (Ok other) key none is = cc
none_read (Err fault) key none is = cc

-- what is read is the one key
pub one_read : (r : Result Key TextFault) (one key : Key) → Some one ≡ result_ok r → r ≡ Ok key → one ≡ key
one_read r one key some is = same one key (some ∙ ap result_ok is)
  where
    same : (x y : Key) → Some x ≡ Some y → x ≡ y
    same x y e = cc
