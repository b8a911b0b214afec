use Rattle.std.proofs.Common.{vec_len, ◌∷◌}
use Rattle.lt_forest.specs.Parts.{numbers}
use Rattle.lt_rows.specs.Handles.{knows, IsPassOf, IsSamePass}
use Rattle.lt_tree.specs.Puttings.{PutsSome}
use Rattle.lt_tree.proofs.put.put_part.Given as goal

abbrev pub invariant-loop-row : goal.invariant-loop-row
invariant-loop-row l =
    IsPassOf l.table l.pass × IsSamePass l.initial.pass l.pass
    × PutsSome (knows l.initial.pass) (knows l.pass) (l.held ∷ numbers l.initial.rows.items) (l.held ∷ numbers l.rows.items)

abbrev pub decreases-loop-row : goal.decreases-loop-row
decreases-loop-row l = vec_len l.rows
