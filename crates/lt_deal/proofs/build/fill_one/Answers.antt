use Rattle.std.proofs.Common.{◌∷◌, [], length, Some, ap, sym, ◌∙◌, ℕ}
use Rattle.atomic_table.specs.Table.{rest}
use Rattle.lt_deal.proofs.build.fill_one.Goals as goal

pub stock-requires-clause-has : goal.stock-requires-clause-has
stock-requires-clause-has g c =
    let told = c.open.ensures.told in
    let same = ap (λ m. length m.0.stock) c.exchange.ensures.3 ∙ ap (λ v. length v.stock) told.0 in
    let first = ap (λ m. m.1) c.exchange.ensures.3 ∙ ap (λ l. (c.args.index, Some c.args.item) ∷ rest l) told.1.1 in
    (c.args.item, first ∙ ap (λ (n : ℕ). (n, Some c.args.item) ∷ []) (c.requires.slot.0 ∙ sym same))
