use Rattle.std.proofs.Common.{◌≡◌, ◌++◌, map}
use Rattle.std.specs.List.{All}
use Rattle.lt_locktree.proofs.OpeningLaws.{IsIdle}
use Rattle.lt_locktree.proofs.locktree.idle_passes.Given as goal

abbrev pub invariant-loop-pass : goal.invariant-loop-pass
invariant-loop-pass l =
    (map (λ p. p.pass) l.passes.items ++ l.pass-iterator.rest.items ≡ l.fn.rows.items) × All IsIdle l.pass-iterator.rest.items
