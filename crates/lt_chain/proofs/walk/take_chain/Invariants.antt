use Rattle.std.proofs.Common.{ℕ}
use Rattle.lt_rows.specs.Handles.{knows, IsPassOf, IsSamePass}
use Rattle.lt_tree.specs.States.{OnlyRows, KeepsRows}
use Rattle.lt_tree.specs.Descents.{free_rows}
use Rattle.lt_chain.specs.Chains.{Walks}
use Rattle.lt_chain.proofs.walk.take_chain.Given as goal

abbrev pub invariant-loop-link : goal.invariant-loop-link
invariant-loop-link l =
    IsPassOf l.table l.pass × IsSamePass l.initial.pass l.pass × OnlyRows (knows l.initial.pass) (knows l.pass)
    × KeepsRows (knows l.initial.pass) (knows l.pass)
    × ((owner : ℕ) × (count : ℕ) × Walks (knows l.pass) l.tree owner count l.rows.items l.link)

-- the rows that are not held
abbrev pub decreases-loop-link : goal.decreases-loop-link
decreases-loop-link l = free_rows (knows l.pass).held
