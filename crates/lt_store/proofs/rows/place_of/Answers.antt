use Rattle.std.proofs.Common.{rules, not}
use Rattle.std.proofs.lemmas.List.Sorted.{IsPartitionPoint-from_clause}
use Rattle.lt_ranges.specs.Key.{key_le}
use Rattle.lt_store.proofs.PlaceLaws.{parted, placed}
use Rattle.lt_store.proofs.rows.place_of.Goals as goal

pub returns : goal.returns
returns c =
    placed c.args.rows.now c.args.key.now c.partition_point.result c.partition_point.ensures.bound
    (IsPartitionPoint-from_clause (λ r. not (key_le c.args.key.now r.key)) c.args.rows.now c.partition_point.result c.partition_point.ensures.partitioned
    (parted c.args.rows.now c.args.key.now c.requires) (λ a r f' k. search rules))
