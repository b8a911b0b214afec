-- What watches are told of joins.
use Rattle.std.specs.Prelude.{ℕ, ◌+◌, List, [], ◌∷◌, ◌++◌, length, map, Bool, true, false, nat_lt, if◌then◌else◌}
use Rattle.std.specs.Global.{Global}
use Rattle.std.specs.declared.dyn_box.DynBox.{DynBox}
use Rattle.lt_seq.specs.declared.event.JoinNote.{JoinNote}
use Rattle.lt_watch.specs.declared.watchers.Watchers.{Watchers}
use Rattle.lt_watch.specs.declared.told.Told.{Told}
use Rattle.lt_watch.specs.declared.told.Told.TheVariants.{Join, Pair}

-- the items of a note: one of the join, and then one of each pair after it
abbrev pub items_of : JoinNote → List Told
items_of note = Join note.place note.tree note.before note.after ∷ map Pair note.pairs

-- the item is one of a join
abbrev pub is_join : Told → Bool
is_join (Join place tree before after) = true
is_join (Pair held) = false

-- what a watch was told, and how many items it may be told in all
pub record Log : Type 0 where
  pub capacity : ℕ
  pub told : List Told

-- a log of this capacity and these items
abbrev pub log_of : ℕ → List Told → Log
log_of capacity told = record { capacity = capacity; told = told }

-- the items of the note don't fit
abbrev pub is_full : JoinNote → Log → Bool
is_full note log = nat_lt log.capacity (length log.told + length (items_of note))

-- the log once it was told the note, which is whole or left out
abbrev pub after_note : JoinNote → Log → Log
after_note note log = log_of log.capacity (if is_full note log then log.told else log.told ++ items_of note)

-- the log once it was told these notes, the first one first
abbrev pub after_notes : List JoinNote → Log → Log
after_notes [] log = log
after_notes (note ∷ notes) log = after_notes notes (after_note note log)

-- the boxes of a list of watches, in its order
abbrev pub boxes_of : {X : Type 0} {D : X → Type 0} → Watchers X D → List (DynBox X Global D)
boxes_of watchers = watchers.list.items
