use Rattle.std.proofs.Common.{◌≡◌, ◌≤◌, ◌∷◌, ◌++◌, map, take}
use Rattle.std.specs.Prelude.{vec_capacity}
use Rattle.lt_watch.specs.declared.told.Told.TheVariants.{Join, Pair}
use Rattle.lt_watch.proofs.list_watch.put_items.Given as goal

abbrev pub invariant-loop-held : goal.invariant-loop-held
invariant-loop-held l =
    (l.items.items ≡ l.fn.items.items ++ Join l.note.place l.note.tree l.note.before l.note.after ∷ map Pair (take l.held-index l.held-items))
    × (vec_capacity l.fn.items ≤ vec_capacity l.items)
