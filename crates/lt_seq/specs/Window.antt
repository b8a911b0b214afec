-- Where the ranges of a lawful list stand that overlap a range.
use Rattle.std.specs.Prelude.{◌≡◌, ℕ, ◌≤◌, List, length, true}
use Rattle.std.specs.List.{AllWithin}
use Rattle.lt_ranges.specs.Interval.{Interval, overlap, before}
use Rattle.lt_seq.specs.declared.event.Pair.{Pair}

-- those from start up to end overlap it, those in front lie before it, and those behind lie behind it
pub record IsWindow (range : Interval) (pairs : List Pair) (start end : ℕ) : Type 0 where
  pub ordered : start ≤ end
  pub within : end ≤ length pairs
  pub front : AllWithin (λ p. before p.range range ≡ true) pairs 0 start
  pub inside : AllWithin (λ p. overlap p.range range ≡ true) pairs start end
  pub behind : AllWithin (λ p. before range p.range ≡ true) pairs end (length pairs)
