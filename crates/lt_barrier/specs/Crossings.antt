-- That a join crosses no mark.
use Rattle.std.specs.Prelude.{◌≡◌, ℕ, List, Bool, true, ◌&&◌, ◌==◌, not}
use Rattle.std.specs.List.{list_any, Contains}
use Rattle.lt_ranges.specs.declared.key.Key.{Key}
use Rattle.lt_ranges.specs.Key.{key_le}
use Rattle.lt_seq.specs.declared.event.Pair.{Pair}
use Rattle.lt_seq.specs.Pairs.{joined}

-- whether one of the owner's ranges lies on both sides of the mark: it begins below the mark, and does not end below it
abbrev pub lies_over : ℕ → Key → List Pair → Bool
lies_over owner mark pairs =
    list_any (λ p. p.owner == owner && not (key_le mark p.range.left) && key_le mark p.range.right) pairs

-- an owner with a range on both sides of a mark had one before
abbrev pub CrossesNoMark : List Key → List Pair → List Pair → Type 0
CrossesNoMark marks old new =
    (owner : ℕ) (mark : Key) → Contains marks mark → lies_over owner mark new ≡ true → lies_over owner mark old ≡ true

-- a join that stops at marks crosses none
abbrev pub JoinedCrossesNoMark : Type 0
JoinedCrossesNoMark = (marks : List Key) (pairs : List Pair) → CrossesNoMark marks pairs (joined marks pairs)
