use Rattle.std.proofs.Common.{◌≡◌, ℕ, ◌<◌, ◌≤◌, false, get_or, length}
use Rattle.std.specs.Prelude.{Some, vec_capacity}
use Rattle.std.specs.Mem.Slots.{slots_filled, slots_items, slots_len}
use Rattle.std.specs.Mem.Slots.Ownership.{Filled}
use mathlib.Core.Option.{some}
use lib.ListN.{get_elem?}
use Rattle.lt_deal.proofs.close.unpack.Given as goal

abbrev pub invariant-loop-k : goal.invariant-loop-k
invariant-loop-k g l =
    (Filled (slots_filled l.closed.slots) l.k (slots_len l.closed.slots) × ((k : ℕ) → k < l.k → get_or (slots_filled l.closed.slots) k false ≡ false))
    × ((slots_items l.closed.slots ≡ slots_items l.fn.closed.slots) × (slots_len l.closed.slots ≡ slots_len l.fn.closed.slots))
    × ((length l.items.items ≡ l.k) × (slots_len l.fn.closed.slots ≤ vec_capacity l.items))
    × ((k : ℕ) (x : _) → k < l.k → get_elem? (slots_items l.fn.closed.slots) k ≡ some (Some x) → get_elem? l.items.items k ≡ some x)
