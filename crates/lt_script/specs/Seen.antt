-- What is kept of the transactions of some moves.
use Rattle.std.specs.Prelude.{◌≡◌, ℕ, List, Option, Some, None, Bool, length, if◌then◌else◌}
use Rattle.std.specs.Ordering.{nat_cmp}
use Rattle.std.specs.BTreeMap.{get, btree_map_len}
use Rattle.std.specs.declared.alloc.Global.{Global}
use Rattle.std.specs.declared.collections.btree_map.BTreeMap.{BTreeMap}
use Rattle.lt_store.specs.declared.op.Move.{Move}
use Rattle.lt_script.specs.Moves.{has_begun, has_ended, txns_of}

-- whether a transaction that the moves have had its last one
abbrev pub seen_in : List Move → ℕ → Option Bool
seen_in moves txn = if has_begun txn moves then Some (has_ended txn moves) else None

-- the map says so of each transaction, and has no other
pub record IsSeen (ended : BTreeMap ℕ Bool Global) (moves : List Move) : Type 0 where
  pub each : (txn : ℕ) → get nat_cmp ended txn ≡ seen_in moves txn
  pub count : btree_map_len ended ≡ length (txns_of moves)
