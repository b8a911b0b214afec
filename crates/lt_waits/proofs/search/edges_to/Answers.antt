use Rattle.std.proofs.Common.{ltb, leb, rules, sym, subst}
use Rattle.std.proofs.lemmas.List.Sorted.{IsPartitionPoint-from_clause, IsPartitionedBy-leb, IsPartitionedBy-ltb, IsNonDecreasingBy-drop}
use Rattle.std.specs.List.Sorted.{IsNonDecreasingBy}
use Rattle.lt_waits.specs.declared.wait.Wait.{Wait}
use Rattle.lt_waits.proofs.PartLaws.{edges_part}
use Rattle.lt_waits.proofs.search.edges_to.Goals as goal

pub returns : goal.returns
returns c =
    let lower = IsPartitionPoint-from_clause (λ w. ltb w.holder c.args.holder) _ _ c.partition_point-start.ensures.partitioned (IsPartitionedBy-ltb (λ w. w.holder) _ c.args.holder c.requires) (λ a r q k. search rules) in
    let upper = IsPartitionPoint-from_clause (λ w. leb w.holder c.args.holder) _ _ c.partition_point-end.ensures.partitioned (IsPartitionedBy-leb (λ w. w.holder) _ c.args.holder (subst (λ l. IsNonDecreasingBy (λ (w : Wait). w.holder) l) (sym c.split_at.ensures.back) (IsNonDecreasingBy-drop (λ w. w.holder) c.partition_point-start.result _ c.requires))) (λ a r q k. search rules) in
    edges_part c.args.by_holder.now c.args.holder c.partition_point-start.result c.partition_point-end.result _ c.split_at.ensures.back lower upper c.partition_point-start.ensures.bound c.partition_point-end.ensures.bound
