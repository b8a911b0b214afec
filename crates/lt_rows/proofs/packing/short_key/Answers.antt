use Rattle.std.proofs.Common.{◌≡◌, ◌-◌, ℕ, List, take, length-take, arith, ap, ◌∙◌}
use Rattle.std.specs.Prelude.{slice_index}
use Rattle.lt_ranges.specs.declared.key.Key.{Key}
use Rattle.lt_ranges.specs.declared.key.Key.TheVariants.{Bytes}
use Rattle.lt_rows.proofs.ShortKeys.{not_refused, short_below, short_bytes}
use Rattle.lt_rows.proofs.packing.short_key.Goals as goal

pub returns-then-code-eq0 : goal.returns-then-code-eq0
returns-then-code-eq0 c = short_below c.args.words.now c.requires.long c.requires.packs c.if-code-eq0.true

pub returns : goal.returns
returns c =
    let words : List ℕ = c.args.words.now in
    let bytes : List ℕ = c.to_be_bytes-bytes.result in
    let n : ℕ = slice_index words 7 - 1 in
    c.unwrap_or.ensures
    ∙ (not_refused (take n bytes) c.new.result (omega (arith, length-take n bytes, c.requires.packs.1)) c.new.ensures.refused.0 c.new.ensures.value
    ∙ (ap (λ (l : List ℕ). Bytes (take n l)) c.to_be_bytes-bytes.ensures
    ∙ short_bytes words c.requires.long c.requires.packs c.if-code-eq0.false))
