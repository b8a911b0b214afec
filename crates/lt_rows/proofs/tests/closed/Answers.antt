use Rattle.std.proofs.Common.{[], ◌∷◌, ◌++◌, ap, ◌∙◌}
use Rattle.lt_rows.proofs.ClosingLaws.{one_pass}
use Rattle.lt_rows.proofs.tests.closed.Goals as goal

pub close-requires : goal.close-requires
close-requires c = record {
  first = one_pass c.args.table c.args.pass c.push.new.self.items (c.in_ok-push.ensures.items ∙ ap (λ items. items ++ c.args.pass ∷ []) c.new-passes.ensures.items) c.requires.of c.requires.all c.requires.none;
}
