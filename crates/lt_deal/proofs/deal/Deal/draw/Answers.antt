use Rattle.std.proofs.Common.{rules, arith, ◌<◌, ℕ, length, ◌++◌, ◌∷◌, [], Some, None, ap, sym, ◌∙◌, subst}
use Rattle.atomic_table.specs.Table.{rest}
use Rattle.lt_deal.specs.declared.view.View.{View}
use Rattle.lt_deal.specs.Rule.{Gave, times}
use Rattle.lt_deal.specs.Handles.{knows}
use Rattle.lt_deal.proofs.Lists.{times_append, weight_same}
use Rattle.lt_deal.proofs.deal.Deal.draw.Goals as goal

pub exchange-requires : goal.exchange-requires
exchange-requires g c =
    let test = c.if-found-self.false in
    let many = c.requires.of.1 in
    let p = c.ticket-found.ensures.told.0 (omega arith) in
    (search rules, (Some p.1.0, p.1.2 ∙ ap (λ l. (c.ticket-found.result, Some p.1.0) ∷ rest l) (sym p.1.2)))

pub returns-clause-none : goal.returns-clause-none
returns-clause-none g c =
    let test = c.if-found-self.false in
    let many = c.requires.of.1 in
    let k : ℕ = c.ticket-found.result in
    let old : View g.row.T.Denot = knows c.args.seat.now in
    let low : k < length old.stock = omega arith in
    let p = c.ticket-found.ensures.told.0 low in
    let is = ap (λ m. m.0) c.exchange.ensures.3 ∙ p.0 in
    let more = times_append k old.drew (k ∷ []) in
    let one = weight_same k in
    let drew : 0 < times k (old.drew ++ k ∷ []) = omega arith in (
      ap (λ m. m.1) c.exchange.ensures.3 ∙ ap (λ l. (k, None) ∷ rest l) p.1.2,
      subst (λ (v : View g.row.T.Denot). k < length v.stock) (sym is) low,
      subst (λ (v : View g.row.T.Denot). 0 < times k v.drew) (sym is) drew,
      λ y gave. p.2 y (subst (λ (v : View g.row.T.Denot). Gave v.gave k y) is gave),
    )
