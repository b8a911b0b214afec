use Rattle.std.proofs.Common.{sym, subst, ap, ◌∙◌, refl}
use Rattle.std.specs.List.{insert}
use Rattle.lt_requests.specs.Registered.{Ascend}
use Rattle.lt_requests.proofs.RegistryLaws.{ascend-with_wish}
use Rattle.lt_requests.proofs.registry.Registry.add.Goals as goal

pub invariant_of-self-2 : goal.invariant_of-self-2
invariant_of-self-2 c =
    let at = c.in-Err.ensures.absent in
    subst Ascend (at.put c.args.wish refl ∙ ap (λ l. insert l c.in-Err.at c.args.wish) (sym c.self.view_is) ∙ sym c.in_ok-insert.ensures.items) (ascend-with_wish c.args.wish c.args.self.now at.absent (subst Ascend c.self.view_is c.self.invariant))
