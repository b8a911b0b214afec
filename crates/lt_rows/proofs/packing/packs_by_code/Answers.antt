use Rattle.std.proofs.Common.{arith, refl}
use Rattle.lt_rows.proofs.FilledWords.{packs_low, packs_high}
use Rattle.lt_rows.proofs.packing.packs_by_code.Goals as goal

pub returns-in-0-to-64 : goal.returns-in-0-to-64
returns-in-0-to-64 c is =
    packs_low c.args.words.now c.requires (λ k. omega (arith, c.type_inv.words k))
    c.saturating_sub.result _ (omega arith) c.saturating_sub.ensures
    (c.is_filled.ensures is)

pub returns-in-191-to-255 : goal.returns-in-191-to-255
returns-in-191-to-255 c is =
    packs_high c.args.words.now c.requires (λ k. omega (arith, c.type_inv.words k))
    c.saturating_sub-in-191-to-255.result _ _ (omega arith) (omega arith)
    c.saturating_sub-in-191-to-255.ensures refl (c.is_filled-in-191-to-255.ensures is)
