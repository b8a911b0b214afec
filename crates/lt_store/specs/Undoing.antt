-- How puts are undone, from the last to the first.
use Rattle.std.specs.Prelude.{◌≢◌, List, [], ◌∷◌, ◌++◌, None}
use Rattle.lt_store.specs.declared.row.StoreRow.{StoreRow}
use Rattle.lt_store.specs.declared.op.Op.{Op}
use Rattle.lt_store.specs.declared.op.Op.TheVariants.{Get, Put, Scan, Commit, Abort}
use Rattle.lt_store.specs.declared.done.Done.{Done}
use Rattle.lt_store.specs.declared.undo.Undo.{Undo}
use Rattle.lt_store.specs.Rows.{find, restored}
use Rattle.lt_store.specs.Rerun.{map_after}

-- what undoes an operation on a map
abbrev pub undo_op : List StoreRow → Op → List Undo
undo_op rows (Get key) = []
undo_op rows (Put key value) = record { key = key; old = find rows key } ∷ []
undo_op rows (Scan range) = []
undo_op rows Commit = []
undo_op rows Abort = []

-- and what undoes those of a transaction
abbrev pub undo_of : List StoreRow → List Done → List Undo
undo_of rows [] = []
undo_of rows (d ∷ ds) = undo_op rows d.op ++ undo_of (map_after rows d.op) ds

-- the rows once all is undone, the last first
abbrev pub unwound : List StoreRow → List Undo → List StoreRow
unwound rows [] = rows
unwound rows (u ∷ us) = restored (unwound rows us) u.key u.old

-- each key that is undone is there
abbrev pub CanUnwind : List StoreRow → List Undo → Type 0
CanUnwind rows [] = Unit {0}
CanUnwind rows (u ∷ us) = CanUnwind rows us × (find (unwound rows us) u.key ≢ None)
