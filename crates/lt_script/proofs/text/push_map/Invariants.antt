use Rattle.std.proofs.Common.{◌≡◌, ◌++◌, drop}
use Rattle.lt_script.specs.Text.{map_lines}
use Rattle.lt_script.proofs.text.push_map.Given as goal

-- with what is left it is all
abbrev pub invariant-loop-row : goal.invariant-loop-row
invariant-loop-row l = l.text.items ++ map_lines (drop l.row-index l.rows) ≡ l.fn.text.items ++ map_lines l.rows
