use Rattle.std.proofs.Common.{◌≡◌, ◌+◌, length, get_or, take, rules, arith, length-set, sym, ap, ◌∙◌}
use Rattle.std.proofs.Math.ListN.{set}
use Rattle.std.specs.Int.{w64, to_be_bytes}
use Rattle.lt_ranges.proofs.MappedSoFar.{one_more_mapped, all_mapped}
use Rattle.lt_rows.proofs.packing.bytes_of_words.Goals as goal

pub loop-i-preserved : goal.loop-i-preserved
loop-i-preserved c =
    let long : length c.args.words.now ≡ 8 = c.requires in
    let word : c.to_be_bytes.result ≡ to_be_bytes w64 (get_or c.args.words.now c.loop-i.i 0) = search rules in (
      length-set c.loop-i.chunks c.loop-i.i c.to_be_bytes.result ∙ c.loop-i.invariant.0,
      ap (λ bytes. take (c.loop-i.i + 1) (set c.loop-i.chunks c.loop-i.i bytes)) word
          ∙ one_more_mapped (to_be_bytes w64) c.args.words.now c.loop-i.chunks c.loop-i.i 0 c.loop-i.invariant.1 (omega arith) (omega arith),
    )

pub returns : goal.returns
returns c =
    let long : length c.args.words.now ≡ 8 = c.requires in
    let end : c.loop-i.i ≡ 8 = omega arith in
    all_mapped (to_be_bytes w64) c.args.words.now c.loop-i.chunks c.loop-i.i c.loop-i.invariant.1 (long ∙ sym end) (c.loop-i.invariant.0 ∙ sym end)
