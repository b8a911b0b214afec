-- Moves of transactions behind each other.
use Rattle.std.specs.Prelude.{ℕ, List, map, Bool, true, false, ◌&&◌, ◌==◌}
use Rattle.std.specs.List.{list_any}
use Rattle.lt_ranges.specs.Numbers.{ascending}
use Rattle.lt_store.specs.declared.op.Op.{Op}
use Rattle.lt_store.specs.declared.op.Op.TheVariants.{Get, Put, Scan, Commit, Abort}
use Rattle.lt_store.specs.declared.op.Move.{Move}

-- a transaction has no move behind this one
abbrev pub is_last : Op → Bool
is_last (Get key) = false
is_last (Put key value) = false
is_last (Scan range) = false
is_last Commit = true
is_last Abort = true

-- whether a transaction had its last move, or a move at all
abbrev pub has_ended : ℕ → List Move → Bool
has_ended txn moves = list_any (λ m. m.txn == txn && is_last m.op) moves

abbrev pub has_begun : ℕ → List Move → Bool
has_begun txn moves = list_any (λ m. m.txn == txn) moves

abbrev pub txns_of : List Move → List ℕ
txns_of moves = ascending (map (λ m. m.txn) moves)
