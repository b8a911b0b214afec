-- Why a text is not read as a key.
use Rattle.std.specs.Prelude.{◌≡◌, ◌≢◌, ℕ, ◌<◌, List, length, IsTrue}
use Rattle.lt_ranges.specs.declared.key.Key.{Key}
use Rattle.lt_ranges.specs.declared.text_fault.TextFault.{TextFault}
use Rattle.lt_ranges.specs.declared.text_fault.TextFault.TheVariants.{NotText, TooLong}
use Rattle.lt_ranges.specs.Numbers.{AreBytes}
use Rattle.lt_ranges.specs.KeyText.{key_text, IsOfBytes, is_long}

-- it spells no bytes, or too many for a key of the program
abbrev pub IsFaultOf : (List ℕ → List ℕ) → List ℕ → TextFault → Type 0
IsFaultOf spelling text NotText = (bytes : List ℕ) → AreBytes bytes → text ≢ spelling bytes
IsFaultOf spelling text TooLong =
    (bytes : List ℕ) × AreBytes bytes × (63 < length bytes) × (text ≡ spelling bytes)

-- it is no key's text, or that of a key with too many bytes
abbrev pub IsTextFault : List ℕ → TextFault → Type 0
IsTextFault text NotText = (key : Key) → IsOfBytes key → text ≢ key_text key
IsTextFault text TooLong = (key : Key) × IsOfBytes key × IsTrue (is_long key) × (text ≡ key_text key)
