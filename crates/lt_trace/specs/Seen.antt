-- What is kept of the transactions of some lines.
use Rattle.std.specs.Prelude.{◌≡◌, ℕ, List, Option, Some, None, Bool, length, if◌then◌else◌}
use Rattle.std.specs.Ordering.{nat_cmp}
use Rattle.std.specs.BTreeMap.{get, btree_map_len}
use Rattle.std.specs.declared.alloc.Global.{Global}
use Rattle.std.specs.declared.collections.btree_map.BTreeMap.{BTreeMap}
use Rattle.lt_trace.specs.declared.line.Line.{Line}
use Rattle.lt_trace.specs.Grammar.{has_begun, has_ended, txns_of}

-- whether a transaction that the lines have had its last line
abbrev pub seen_in : List Line → ℕ → Option Bool
seen_in lines txn = if has_begun txn lines then Some (has_ended txn lines) else None

-- the map says so of each transaction, and has no other
pub record IsSeen (ended : BTreeMap ℕ Bool Global) (lines : List Line) : Type 0 where
  pub each : (txn : ℕ) → get nat_cmp ended txn ≡ seen_in lines txn
  pub count : btree_map_len ended ≡ length (txns_of lines)
