use Rattle.std.proofs.Common.{◌≡◌, ◌<◌, ℕ, List, length, get_or}
use Rattle.lt_rows.specs.Views.{row_at, with_row, written}
use Rattle.lt_rows.specs.Handles.{knows, IsPassOf, IsSamePass}
use Rattle.lt_rows.proofs.table.RowTable.write_links.Given as goal

abbrev pub invariant-loop-i : goal.invariant-loop-i
invariant-loop-i l = record {
  of : IsPassOf l.self l.pass × IsSamePass l.initial.pass l.pass;
  far : (words : List ℕ) × (17 < l.i → length words ≡ 21) × (knows l.pass ≡ with_row (knows l.initial.pass) l.image.row (written (row_at (knows l.initial.pass) l.image.row) words)) × ((k : ℕ) → k < l.i → get_or words k 0 ≡ get_or l.image.words k 0);
}
