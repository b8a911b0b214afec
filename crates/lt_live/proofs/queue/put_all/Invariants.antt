use Rattle.std.proofs.Common.{◌≡◌, ◌++◌, take}
use Rattle.crossbeam_queue.specs.Passes.{view, IsPassOf}
use Rattle.lt_live.specs.Deals.{hand}
use Rattle.lt_live.proofs.queue.put_all.Given as goal

abbrev pub invariant-loop-txn : goal.invariant-loop-txn
invariant-loop-txn g l =
    IsPassOf l.line l.pass
    × (view l.pass ≡ hand (view l.fn.pass).parts ((view l.fn.pass).put ++ take l.txn-index l.all) (view l.fn.pass).taken)
