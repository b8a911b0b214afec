use Rattle.std.proofs.Common.{subst, sym}
use Rattle.std.specs.List.Sorted.{IsPermutation}
use Rattle.lt_waits.proofs.WalkLaws.{cycle_is}
use Rattle.lt_waits.proofs.search.least_cycle.Goals as goal

pub returns : goal.returns
returns c = cycle_is (λ walk. walk.items) c.args.waits.now c.deref.result.now c.args.txn _ (subst (λ l. IsPermutation c.args.waits.now l) (sym c.deref.ensures.value) c.in_ok-by_holder.ensures.same) c.in_ok-steps.ensures c.walk_by.result c.walk_by.ensures
