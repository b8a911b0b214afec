-- Transactions that touch no key which another puts. For proofs.
use Rattle.std.specs.Prelude.{◌≡◌, ℕ, List, [], ◌∷◌, false}
use Rattle.lt_ranges.specs.declared.key.Key.{Key}
use Rattle.lt_ranges.specs.Interval.{has}
use Rattle.lt_store.specs.declared.op.Op.{Op}
use Rattle.lt_store.specs.declared.op.Op.TheVariants.{Get, Put, Scan, Commit, Abort}
use Rattle.lt_store.specs.declared.done.Done.{Done}
use Rattle.lt_store.specs.Ranges.{range_of}

-- no operation touches the key
abbrev pub Clear : Key → List Done → Type 0
Clear key [] = Unit {0}
Clear key (d ∷ ds) = (has (range_of d.op) key ≡ false) × Clear key ds

-- no operation touches the key that this one puts
abbrev pub IsClearOf : Op → List Done → Type 0
IsClearOf (Get key) ops = Unit {0}
IsClearOf (Put key value) ops = Clear key ops
IsClearOf (Scan range) ops = Unit {0}
IsClearOf Commit ops = Unit {0}
IsClearOf Abort ops = Unit {0}

-- no operation touches a key that one of these puts
abbrev pub AreClearOf : List Done → List Done → Type 0
AreClearOf [] ops = Unit {0}
AreClearOf (d ∷ ds) ops = IsClearOf d.op ops × AreClearOf ds ops

-- nor one of these transactions
abbrev pub AreClearOfAll : List Done → List (List Done) → Type 0
AreClearOfAll puts [] = Unit {0}
AreClearOfAll puts (ops ∷ more) = AreClearOf puts ops × AreClearOfAll puts more

-- the transactions of which no operation touches a key that they put
abbrev pub AllAreClearOf : List (List Done) → List Done → Type 0
AllAreClearOf [] ops = Unit {0}
AllAreClearOf (x ∷ xs) ops = AreClearOf x ops × AllAreClearOf xs ops
