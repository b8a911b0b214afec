-- The source and the sink in memory.
use Rattle.std.specs.Prelude.{ℕ, List, min, max}

-- A source: the bytes left, the most bytes of a piece, the numbers of the calls that fail, how many calls were made
-- and how many of them failed.
pub record SourceState : Type 0 where
  pub left : List ℕ
  pub piece : ℕ
  pub failing : List ℕ
  pub calls : ℕ
  pub faults : ℕ

-- A sink: the bytes taken, the most bytes that it takes in all, and the rest as for a source.
pub record SinkState : Type 0 where
  pub taken : List ℕ
  pub room : ℕ
  pub piece : ℕ
  pub failing : List ℕ
  pub calls : ℕ
  pub faults : ℕ

-- The length of the next piece: the least of the piece, where 0 counts as 1, of what is asked and of what is there.
abbrev pub piece_len : ℕ → ℕ → ℕ → ℕ
piece_len piece asked rest = min (max piece 1) (min asked rest)
