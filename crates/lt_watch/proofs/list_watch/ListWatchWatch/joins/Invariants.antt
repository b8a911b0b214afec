use Rattle.std.proofs.Common.{◌≡◌, take}
use Rattle.std.specs.List.{count_by}
use Rattle.lt_watch.specs.Tellings.{is_join}
use Rattle.lt_watch.proofs.list_watch.ListWatchWatch.joins.Given as goal

abbrev pub invariant-loop-item : goal.invariant-loop-item
invariant-loop-item l = l.joins ≡ count_by is_join (take l.item-index l.item-items)
