-- The history word: the place of the next event, and the rows in use.
use Rattle.std.specs.Prelude.{ℕ, ◌+◌, ◌*◌, ◌%◌, ◌^◌, ℤ}
use Rattle.std.specs.Int.{w64, cast_unsigned}

abbrev pub history_word : ℕ → ℕ → ℕ
history_word place used = place * 16777216 + used

-- what a commit adds, where the used rows change by so many: one place, and the change
abbrev pub added : ℤ → ℕ
added change = (16777216 + cast_unsigned w64 change) % 2 ^ 64
