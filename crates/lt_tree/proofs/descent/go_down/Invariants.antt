use Rattle.std.proofs.Common.{◌≡◌, ◌+◌}
use Rattle.lt_rows.specs.Handles.{knows, IsPassOf, IsSamePass}
use Rattle.lt_tree.specs.States.{SeesOn, image_at}
use Rattle.lt_tree.specs.Descents.{Descends, ShowsAs, free_rows}
use Rattle.lt_tree.proofs.descent.go_down.Given as goal

abbrev pub invariant-loop-link : goal.invariant-loop-link
invariant-loop-link l =
    IsPassOf l.table l.pass × IsSamePass l.initial.pass l.pass × SeesOn (knows l.initial.pass) (knows l.pass)
    × Descends (knows l.pass) l.anchor.row l.asked (image_at (knows l.pass) l.here) l.link l.steps l.above.items
    × (l.here ≡ l.anchor.row → ShowsAs l.anchor.words (image_at (knows l.pass) l.here).words)

abbrev pub decreases-loop-link : goal.decreases-loop-link
decreases-loop-link l = l.steps + free_rows (knows l.pass).held
