use Rattle.std.proofs.Common.{map}
use Rattle.lt_seq.specs.Passes.{front_of_first}
use Rattle.lt_manager.specs.Views.{view_of}
use Rattle.lt_manager.proofs.CloseLaws.{AreGathered}
use Rattle.lt_manager.proofs.closing.gather.Given as goal

abbrev pub invariant-loop-other : goal.invariant-loop-other
invariant-loop-other l =
    AreGathered l.table l.fn.passes.items l.other-iterator.rest.items (front_of_first (map view_of l.fn.passes.items)) l.first
    (map (λ v. v.items) l.lists.items)
