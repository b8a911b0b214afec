-- The key of words that pack one is the one that their code tells.
use Rattle.std.proofs.Common.{◌≡◌, ℕ, Bool, true, false, List, refl, sym, ap, ◌∙◌}
use Rattle.std.specs.Prelude.{Option, Some, None, slice_index, unwrap_or}
use Rattle.std.specs.Bool.{then_some}
use Rattle.std.specs.Cmp.Lexicographic.{pointwise}
use Rattle.std.specs.Prelude.{nat_eq}
use Rattle.lt_ranges.specs.declared.key.Key.{Key}
use Rattle.lt_ranges.specs.declared.key.Key.TheVariants.{Below}
use Rattle.lt_ranges.specs.Packing.{packed, unpacked, only_key, checked, coded, spread}
use Rattle.lt_ranges.proofs.PackingLaws.{unpacked_again}
use Rattle.lt_rows.specs.Nodes.{key_of, or_below}
use Rattle.lt_rows.specs.Packing.{PacksKey}

-- what passes the check is what was checked
passed : (words : List ℕ) (o : Option Key) (key : Key) → checked words o ≡ Some key → o ≡ Some key
passed words None key is = cc
passed words (Some other) key is = by_test (pointwise nat_eq (packed other) words) is
  where
    by_test : (t : Bool) → then_some t other ≡ Some key → Some other ≡ Some key
    by_test true is = is
    by_test false is = cc

pub unwrapped : (o : Option Key) → unwrap_or o Below ≡ or_below o
unwrapped None = refl
unwrapped (Some key) = refl

pub key_by_its_code : (words : List ℕ) → PacksKey words → or_below (coded (spread words) (slice_index (spread words) 63)) ≡ key_of words
unfolding key_of unpacked only_key
key_by_its_code words p =
    let again : unpacked words ≡ Some p.0 = ap unpacked (sym p.2) ∙ unpacked_again p.0 p.1 in
    let alone : only_key words ≡ Some p.0 = passed words (only_key words) p.0 again in
    ap or_below (alone ∙ sym again)
