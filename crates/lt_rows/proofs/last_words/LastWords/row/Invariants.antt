use Rattle.std.proofs.Common.{◌≡◌, ◌+◌, ◌*◌, length, take, drop}
use Rattle.lt_rows.specs.LastWords.{words_in}
use Rattle.lt_rows.proofs.last_words.LastWords.row.Given as goal

-- the words so far
abbrev pub invariant-loop-j : goal.invariant-loop-j
invariant-loop-j l = (length l.words ≡ 21) × (take l.j l.words ≡ take l.j (drop (22 * l.row + 1) (words_in l.self)))
