use Rattle.std.proofs.Common.{cond, is_some, ◌+◌, ap, sym, subst, ◌∙◌}
use Rattle.std.specs.BTreeMap.{btree_map_len}
use Rattle.lt_trace.specs.Seen.{IsSeen}
use Rattle.lt_trace.proofs.SeenLaws.{seen_more}
use Rattle.lt_trace.proofs.body.Body.push.Goals as goal

pub invariant_of-self-in-Ok : goal.invariant_of-self-in-Ok
invariant_of-self-in-Ok c =
    let line = c.args.line in
    let more = seen_more c.self.inside.ended c.insert.new.self c.self.inside.lines.items line _ c.self.invariant
    (cc (c.has_ended.ensures, c.is_last.ensures, c.self.view_is))
    c.in-Ok.ensures.updates.0
    (c.in-Ok.ensures.len ∙ ap (λ o. btree_map_len c.self.inside.ended + cond (is_some o) 0 1) c.in-Ok.ensures.old) in
    subst (λ lines. IsSeen c.insert.new.self lines) (sym c.in_ok-push.ensures.items) more
