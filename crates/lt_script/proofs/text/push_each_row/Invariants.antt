use Rattle.std.proofs.Common.{◌≡◌, ◌++◌, drop}
use Rattle.std.specs.List.{flat_map}
use Rattle.lt_script.specs.Text.{row_text}
use Rattle.lt_script.proofs.text.push_each_row.Given as goal

-- with what is left it is all
abbrev pub invariant-loop-row : goal.invariant-loop-row
invariant-loop-row l = l.text.items ++ flat_map row_text (drop l.row-index l.rows) ≡ l.fn.text.items ++ flat_map row_text l.rows
