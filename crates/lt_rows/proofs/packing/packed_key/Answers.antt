use Rattle.std.proofs.Common.{◌≡◌, ℕ, List, ap, ◌∙◌}
use Rattle.std.specs.Prelude.{slice_index}
use Rattle.std.specs.List.{flat_map}
use Rattle.lt_rows.specs.Nodes.{or_below}
use Rattle.lt_ranges.specs.Packing.{coded, spread}
use Rattle.lt_ranges.proofs.PackingLaws.{flattened}
use Rattle.lt_rows.proofs.PackedKeys.{unwrapped, key_by_its_code}
use Rattle.lt_rows.proofs.packing.packed_key.Goals as goal

pub returns : goal.returns
returns c =
    let words : List ℕ = c.args.words.now in
    let bytes : c.as_flattened.result.now ≡ spread words =
    c.as_flattened.ensures.value ∙ (ap (λ (l : List (List ℕ)). flat_map (λ (bytes : List ℕ). bytes) l) c.bytes_of_words-bytes.ensures ∙ flattened words) in
    c.unwrap_or.ensures ∙ (unwrapped c.key_by_code.result
    ∙ (ap or_below (c.key_by_code.ensures ∙ ap (λ (l : List ℕ). coded l (slice_index l 63)) bytes) ∙ key_by_its_code words c.requires.packs))
