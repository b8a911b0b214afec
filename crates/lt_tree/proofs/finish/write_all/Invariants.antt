use Rattle.std.proofs.Common.{drop}
use Rattle.lt_rows.specs.Handles.{knows, IsPassOf, IsSamePass}
use Rattle.lt_tree.specs.Writings.{WritesSome}
use Rattle.lt_tree.proofs.finish.write_all.Given as goal

abbrev pub invariant-loop-image : goal.invariant-loop-image
invariant-loop-image l =
    IsPassOf l.table l.pass × IsSamePass l.initial.pass l.pass
    × WritesSome (knows l.initial.pass) (knows l.pass) l.plan (drop l.image-index l.plan)
