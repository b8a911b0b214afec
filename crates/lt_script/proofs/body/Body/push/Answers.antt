use Rattle.std.proofs.Common.{cond, is_some, ◌+◌, ap, sym, subst, ◌∙◌}
use Rattle.std.specs.BTreeMap.{btree_map_len}
use Rattle.lt_script.specs.Seen.{IsSeen}
use Rattle.lt_script.proofs.SeenLaws.{seen_more}
use Rattle.lt_script.proofs.body.Body.push.Goals as goal

pub invariant_of-self-in-Ok : goal.invariant_of-self-in-Ok
invariant_of-self-in-Ok c =
    let next = c.args.next in
    let more = seen_more c.self.inside.ended c.insert.new.self c.self.inside.moves.items next _ c.self.invariant
    (cc (c.has_ended.ensures, c.is_last.ensures, c.self.view_is))
    c.in-Ok.ensures.updates.0
    (c.in-Ok.ensures.len ∙ ap (λ o. btree_map_len c.self.inside.ended + cond (is_some o) 0 1) c.in-Ok.ensures.old) in
    subst (λ moves. IsSeen c.insert.new.self moves) (sym c.in_ok-extend_from_slice.ensures.items) more
