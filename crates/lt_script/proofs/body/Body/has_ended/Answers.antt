use Rattle.std.proofs.Common.{false, unwrap_or, ap, ◌∙◌}
use Rattle.lt_script.proofs.SeenLaws.{seen_ended}
use Rattle.lt_script.proofs.body.Body.has_ended.Goals as goal

pub returns : goal.returns
returns c =
    let by_map = c.unwrap_or.ensures
    ∙ ap (λ o. unwrap_or o false) (c.copied.ensures ∙ c.get.ensures.value ∙ c.self.invariant.each c.args.txn)
    ∙ seen_ended c.args.txn c.self.inside.moves.items in
    cc (by_map, c.self.view_is)
