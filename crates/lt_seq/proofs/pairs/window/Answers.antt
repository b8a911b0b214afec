use Rattle.std.proofs.Common.{rules}
use Rattle.std.proofs.lemmas.List.Sorted.{IsPartitionPoint-from_clause}
use Rattle.lt_ranges.specs.Key.{key_le}
use Rattle.lt_ranges.specs.Interval.{before}
use Rattle.lt_seq.proofs.WindowLaws.{partitioned_before, partitioned_begins, window_found}
use Rattle.lt_seq.proofs.pairs.window.Goals as goal

pub returns-clause-window : goal.returns-clause-window
returns-clause-window c =
    window_found c.args.range.now c.args.pairs.now _ _ c.left-left.ensures.ordered c.requires c.partition_point-start.ensures.bound c.partition_point-end.ensures.bound
    (IsPartitionPoint-from_clause (λ p. before p.range c.args.range.now) c.args.pairs.now c.partition_point-start.result c.partition_point-start.ensures.partitioned
    (partitioned_before c.args.range.now c.args.pairs.now c.requires) (λ a r f' k. search rules))
    (IsPartitionPoint-from_clause (λ p. key_le p.range.left c.args.range.now.right) c.args.pairs.now c.partition_point-end.result c.partition_point-end.ensures.partitioned
    (partitioned_begins c.args.range.now c.args.pairs.now c.requires) (λ a r f' k. search rules))
