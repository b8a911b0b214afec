use Rattle.std.proofs.Common.{rules}
use Rattle.std.proofs.lemmas.List.Sorted.{IsPartitionPoint-from_clause}
use Rattle.lt_ranges.specs.Key.{key_le}
use Rattle.lt_ranges.specs.Interval.{before}
use Rattle.lt_locktree.proofs.SplitLaws.{rows_before, rows_begin, split_found, split_owns}
use Rattle.lt_locktree.proofs.splitting.overlapping.Goals as goal

pub returns-clause-split : goal.returns-clause-split
returns-clause-split c =
    split_found c.args.range.now c.args.rows.now _ _ c.left-left.ensures.ordered c.requires
    c.partition_point-start.ensures.bound c.partition_point-end.ensures.bound
    (IsPartitionPoint-from_clause (λ r. before r.range c.args.range.now) c.args.rows.now c.partition_point-start.result
    c.partition_point-start.ensures.partitioned
    (rows_before c.args.range.now c.args.rows.now c.requires) (λ a r f' k. search rules))
    (IsPartitionPoint-from_clause (λ r. key_le r.range.left c.args.range.now.right) c.args.rows.now
    c.partition_point-end.result c.partition_point-end.ensures.partitioned
    (rows_begin c.args.range.now c.args.rows.now c.requires) (λ a r f' k. search rules))

pub returns-clause-own : goal.returns-clause-own
returns-clause-own c txn none =
    split_owns txn c.args.range.now c.args.rows.now c.partition_point-start.result c.partition_point-end.result (returns-clause-split c) none
