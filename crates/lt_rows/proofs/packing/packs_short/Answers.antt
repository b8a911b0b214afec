use Rattle.std.proofs.Common.{arith, sym, ◌∙◌}
use Rattle.lt_rows.specs.Packing.{AreBare}
use Rattle.lt_rows.proofs.FilledWords.{packs_low}
use Rattle.lt_rows.proofs.ShortKeys.{bare_filled}
use Rattle.lt_rows.proofs.packing.packs_short.Goals as goal
use Rattle.lt_rows.proofs.packing.packs_short.Goals.{then-code-le9, else-code-le9}

pub returns-then-are_bare : goal.returns-then-are_bare
returns-then-are_bare c is = elim c.if-code-le9.branch [
  | then-code-le9 w ↦ (
    packs_low c.args.words.now c.requires (λ k. omega (arith, c.type_inv.words k))
        c.saturating_sub.result _ (omega arith) c.saturating_sub.ensures
        (bare_filled c.args.words.now c.saturating_sub.result c.requires (c.ends_in.ensures is) (w.are_bare.ensures (sym w.value-is ∙ c.if-are_bare.true))),
    omega arith,
  )
  | else-code-le9 w ↦ absurd (omega arith)
]
