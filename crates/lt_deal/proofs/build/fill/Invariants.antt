use Rattle.std.proofs.Common.{◌≡◌, ◌++◌, [], length}
use Rattle.lt_deal.specs.Fresh.{waiting}
use Rattle.lt_deal.proofs.build.fill.Given as goal

abbrev pub invariant-loop-item : goal.invariant-loop-item
invariant-loop-item g l =
    (l.place.table_id ≡ l.words.table_id) × (l.place.me ≡ (waiting l.words.key l.place.me.0.stock, [])) × (l.index ≡ length l.place.me.0.stock)
    × (l.place.me.0.stock ++ l.item-iterator.rest.items ≡ l.fn.items.items)
