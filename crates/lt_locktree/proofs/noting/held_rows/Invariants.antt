use Rattle.std.proofs.Common.{◌≡◌, ◌++◌, map, drop}
use Rattle.lt_seq.specs.Table.{held_in}
use Rattle.lt_forest.specs.Parts.{row_pair}
use Rattle.lt_locktree.proofs.noting.held_rows.Given as goal

-- those put, and then those left
abbrev pub invariant-loop-row : goal.invariant-loop-row
invariant-loop-row l =
    l.held.items ++ held_in l.tree (map row_pair (drop l.row-index l.rows)) ≡ held_in l.tree (map row_pair l.rows)
