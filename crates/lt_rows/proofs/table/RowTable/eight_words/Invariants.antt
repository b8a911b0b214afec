use Rattle.std.proofs.Common.{◌≡◌, ◌<◌, length, take, drop}
use Rattle.lt_rows.specs.Views.{row_at, words_of}
use Rattle.lt_rows.specs.Handles.{knows, IsPassOf, IsSamePass}
use Rattle.lt_rows.proofs.table.RowTable.eight_words.Given as goal

-- the words so far
abbrev pub invariant-loop-i : goal.invariant-loop-i
invariant-loop-i l = record {
  of : IsPassOf l.self l.pass × IsSamePass l.initial.pass l.pass;
  same : knows l.pass ≡ knows l.initial.pass;
  wide : length l.words ≡ 8;
  words : take l.i l.words ≡ take l.i (drop l.at (words_of (row_at (knows l.initial.pass) l.row)));
}
