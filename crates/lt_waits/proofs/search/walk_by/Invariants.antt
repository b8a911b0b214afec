use Rattle.std.proofs.Common.{◌≡◌, ◌-◌, ◌∷◌, ◌++◌}
use Rattle.lt_waits.specs.Steps.{steps_in, route}
use Rattle.lt_waits.proofs.search.walk_by.Given as goal

abbrev pub invariant-loop-made : goal.invariant-loop-made
invariant-loop-made l = l.walk.items ++ route (l._made-end - l._made) (steps_in l.steps) l.at ≡ l.initial.at ∷ route l._made-end (steps_in l.steps) l.initial.at
