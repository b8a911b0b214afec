use Rattle.std.proofs.Common.{drop}
use Rattle.lt_rows.specs.Handles.{knows, IsPassOf, IsSamePass}
use Rattle.lt_tree.specs.Writings.{WritesSome, KeepRanges}
use Rattle.lt_tree.proofs.settling.write_all_links.Given as goal

abbrev pub invariant-loop-image : goal.invariant-loop-image
invariant-loop-image l =
    IsPassOf l.table l.pass × IsSamePass l.initial.pass l.pass
    × WritesSome (knows l.initial.pass) (knows l.pass) l.plan (drop l.image-index l.plan)
    × KeepRanges (knows l.pass) (drop l.image-index l.plan)
