use Rattle.std.proofs.Common.{sym, ◌∙◌}
use Rattle.lt_requests.proofs.StartLaws.{owners_ascend, owners_others}
use Rattle.lt_requests.proofs.asking.ask_for.Goals as goal

pub hold-requires-clause-ascend : goal.hold-requires-clause-ascend
hold-requires-clause-ascend g c κs within = owners_ascend _ _ _ _ c.args.wish.now c.in-Ok.receipt c.in-Ok.ensures.answer c.in-HeldBy.owners (sym c.reply_of.ensures ∙ c.in-HeldBy.is)

pub hold-requires-clause-others : goal.hold-requires-clause-others
hold-requires-clause-others g c κs within = owners_others _ _ _ _ c.args.wish.now c.in-Ok.receipt c.in-Ok.ensures.answer c.in-HeldBy.owners (sym c.reply_of.ensures ∙ c.in-HeldBy.is)
