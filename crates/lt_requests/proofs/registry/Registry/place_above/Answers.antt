use Rattle.std.proofs.Common.{leb, rules, sym, subst}
use Rattle.std.proofs.lemmas.List.Sorted.{IsPartitionPoint-from_clause, IsPartitionedBy-leb}
use Rattle.std.specs.List.Sorted.{IsNonDecreasingBy}
use Rattle.lt_requests.specs.declared.wish.Wish.{Wish}
use Rattle.lt_requests.proofs.RegistryLaws.{next_from, not_decreasing}
use Rattle.lt_requests.proofs.registry.Registry.place_above.Goals as goal

pub returns : goal.returns
returns c =
    let rises = subst (λ l. IsNonDecreasingBy (λ (w : Wish). w.txn) l) (sym c.deref.ensures.value) (not_decreasing _ c.self.invariant) in
    let point = IsPartitionPoint-from_clause (λ w. leb w.txn c.args.txn) c.deref.result.now c.partition_point.result c.partition_point.ensures.partitioned (IsPartitionedBy-leb (λ w. w.txn) c.deref.result.now c.args.txn rises) (λ a r q k. search rules) in
    rw (← c.self.view_is, ← c.deref.ensures.value) (next_from c.deref.result.now c.args.txn c.partition_point.result point)
