use Rattle.std.proofs.Common.{sym, ◌∙◌}
use Rattle.lt_chain.proofs.put.give_back_three.Goals as goal

pub give_back-requires-2-clause-row : goal.give_back-requires-2-clause-row
give_back-requires-2-clause-row c =
    let h = c.requires.rows.1 in
    (h.0, c.give_back.ensures.others c.args.images.now.pool.row (λ e. c.requires.apart.0 (sym e)) ∙ h.1, h.2)

pub give_back-requires-3-clause-row : goal.give_back-requires-3-clause-row
give_back-requires-3-clause-row c =
    let h = c.requires.rows.2 in
    (h.0, c.give_back-2.ensures.others c.args.images.now.row.row (λ e. c.requires.apart.2 (sym e)) ∙ (c.give_back.ensures.others c.args.images.now.row.row (λ e. c.requires.apart.1 (sym e)) ∙ h.1), h.2)

pub returns-clause-gone : goal.returns-clause-gone
returns-clause-gone c =
    let apart = c.requires.apart in (
      c.give_back-3.ensures.others c.args.images.now.anchor.row apart.1 ∙ (c.give_back-2.ensures.others c.args.images.now.anchor.row apart.0 ∙ c.give_back.ensures.gone),
      c.give_back-3.ensures.others c.args.images.now.pool.row apart.2 ∙ c.give_back-2.ensures.gone,
      c.give_back-3.ensures.gone,
    )

pub returns-clause-others : goal.returns-clause-others
returns-clause-others c r n n' n'' = c.give_back-3.ensures.others r n'' ∙ (c.give_back-2.ensures.others r n' ∙ c.give_back.ensures.others r n)
