use Rattle.std.proofs.Common.{◌≡◌, ◌+◌, ◌<◌, ◌++◌, length, All}
use Rattle.lt_deal.specs.Closings.{HasReturned, drew_of, gave_of, nones_of}
use Rattle.lt_deal.proofs.close.join.Given as goal

abbrev pub invariant-loop-other : goal.invariant-loop-other
invariant-loop-other g l =
    ((l.place.table_id ≡ l.words.table_id) × (l.place.me.1 ≡ l.fn.place.me.1) × (l.place.me.0.stock ≡ l.fn.place.me.0.stock) × (0 < l.place.me.0.parts))
    × (l.place.me.0.parts + length l.other-iterator.rest.items ≡ l.fn.place.me.0.parts + length l.fn.others.items)
    × (l.place.me.0.drew ++ drew_of l.other-iterator.rest.items ≡ l.fn.place.me.0.drew ++ drew_of l.fn.others.items)
    × (l.place.me.0.gave ++ gave_of l.other-iterator.rest.items ≡ l.fn.place.me.0.gave ++ gave_of l.fn.others.items)
    × (l.place.me.0.nones + nones_of l.other-iterator.rest.items ≡ l.fn.place.me.0.nones + nones_of l.fn.others.items)
    × All (HasReturned l.words.table_id) l.other-iterator.rest.items
