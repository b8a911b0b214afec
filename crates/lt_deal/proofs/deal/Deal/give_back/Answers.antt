use Rattle.std.proofs.Common.{◌∷◌, Some, ap, ◌∙◌, subst}
use Rattle.atomic_table.specs.Table.{rest}
use Rattle.lt_deal.specs.declared.view.View.{View}
use Rattle.lt_deal.specs.Rule.{Gave}
use Rattle.lt_deal.proofs.deal.Deal.give_back.Goals as goal

pub give-requires-clause-has : goal.give-requires-clause-has
give-requires-clause-has g c = (c.args.item, ap (λ m. m.1) c.exchange.ensures.3 ∙ ap (λ l. (c.args.index, Some c.args.item) ∷ rest l) c.requires.holds.0)

pub give-requires-clause-out : goal.give-requires-clause-out
give-requires-clause-out g c y gave = c.requires.holds.3 y (subst (λ (v : View g.row.T.Denot). Gave v.gave c.args.index y) (ap (λ m. m.0) c.exchange.ensures.3) gave)
