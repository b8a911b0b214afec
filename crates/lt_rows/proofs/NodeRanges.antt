-- The range that a row holds is never backwards.
use Rattle.std.proofs.Common.{List, ℕ, true, false, Bool, ◌≡◌, refl}
use Rattle.std.specs.Prelude.{IsTrue, if◌then◌else◌}
use Rattle.lt_ranges.specs.declared.key.Key.{Key}
use Rattle.lt_ranges.specs.Key.{key_le, key_max}
use Rattle.lt_ranges.specs.Interval.{IsInterval}
use Rattle.lt_ranges.proofs.KeyLaws.{le_itself}
use Rattle.lt_rows.specs.Nodes.{node_of}

pub below_greater : (a b : Key) → IsTrue (key_le a (key_max a b))
below_greater a b = by_test (key_le a b) refl
  where
    by_test : (t : Bool) → key_le a b ≡ t → key_le a (if t then b else a) ≡ true
    by_test true e = e
    by_test false e = le_itself a

pub node_interval : (row : List ℕ) → IsInterval (node_of row).range
unfolding node_of
node_interval row = below_greater _ _
