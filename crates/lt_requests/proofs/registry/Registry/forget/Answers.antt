use Rattle.std.proofs.Common.{sym, subst, ap, ◌∙◌}
use Rattle.std.specs.List.{remove}
use Rattle.lt_requests.specs.Registered.{Ascend}
use Rattle.lt_requests.proofs.RegistryLaws.{ascend-without}
use Rattle.lt_requests.proofs.registry.Registry.forget.Goals as goal

pub invariant_of-self : goal.invariant_of-self
invariant_of-self c =
    let at = c.in-Ok.ensures.found in
    subst Ascend (at.left ∙ ap (λ l. remove l c.in-Ok.at) (sym c.self.view_is) ∙ sym c.remove.ensures.items) (ascend-without c.args.txn c.args.self.now (subst Ascend c.self.view_is c.self.invariant))
