use Rattle.std.proofs.Common.{ap, ◌∙◌, refl}
use Rattle.lt_ranges.specs.declared.key.Key.TheVariants.{Bytes}
use Rattle.lt_ranges.specs.Key.{key_le}
use Rattle.lt_trace.specs.Generator.{padded}
use Rattle.lt_trace.proofs.PaddedLaws.{keys_le}
use Rattle.lt_trace.proofs.generator.range_of.Goals as goal

-- the keys of numbers in order are in order
pub unreachable-requires : goal.unreachable-requires
unreachable-requires c =
    let ordered = ap (λ k. key_le k c.key_of-2.result) c.key_of.ensures ∙ ap (λ k. key_le (Bytes (padded 5 c.args.left)) k) c.key_of-2.ensures
    ∙ keys_le c.args.left c.args.right c.requires.ordered in
    c.in-Err.ensures.refused.0 refl ordered
