use Rattle.std.proofs.Common.{◌≡◌, [], ◌+◌, ◌/◌, length, get_or, map, take, rules, arith, length-set, sym, ap, ◌∙◌}
use Rattle.std.proofs.Math.ListN.{set}
use Rattle.std.specs.Int.{w64, from_be_bytes}
use Rattle.std.specs.Simd.{first_chunks}
use Rattle.lt_ranges.proofs.MappedSoFar.{one_more_mapped, all_mapped}
use Rattle.lt_ranges.proofs.packing.words_of_bytes.Goals as goal

pub loop-i-preserved : goal.loop-i-preserved
loop-i-preserved c =
    let long : length c.as_chunks.result.0.now ≡ 8 = search rules in
    let word : c.from_be_bytes.result ≡ from_be_bytes w64 (get_or c.as_chunks.result.0.now c.loop-i.i []) = search rules in (
      length-set c.loop-i.words c.loop-i.i c.from_be_bytes.result ∙ c.loop-i.invariant.0,
      ap (λ n. take (c.loop-i.i + 1) (set c.loop-i.words c.loop-i.i n)) word
          ∙ one_more_mapped (from_be_bytes w64) c.as_chunks.result.0.now c.loop-i.words c.loop-i.i [] c.loop-i.invariant.1 (omega arith) (omega arith),
    )

pub returns : goal.returns
returns c =
    let long : length c.as_chunks.result.0.now ≡ 8 = search rules in
    let end : c.loop-i.i ≡ 8 = omega arith in
    let whole : length c.args.bytes.now ≡ 64 = search rules in
    all_mapped (from_be_bytes w64) c.as_chunks.result.0.now c.loop-i.words c.loop-i.i c.loop-i.invariant.1 (long ∙ sym end) (c.loop-i.invariant.0 ∙ sym end)
    ∙ ap (map (from_be_bytes w64)) (c.as_chunks.ensures.front ∙ ap (λ n. first_chunks 8 (n / 8) c.args.bytes.now) whole)
